-- A secret is put: the fields of its change.
use Rattle.std.specs.Prelude.{◌≡◌, ℕ, ◌<◌, ◌≤◌, ◌^◌, List, [], ◌++◌, length, None, true, IfSome}
use Rattle.std.specs.Str.{IsUtf8}
use Rattle.kms_world.specs.Id.{id_number}
use Rattle.kms_world.specs.Name.{is_name}
use Rattle.kms_world.specs.Times.{end_of_times}
use Rattle.kms_world.specs.declared.secret.SecretRow.{SecretRow}
use Rattle.kms_record.specs.declared.secret_put.SecretPut.{SecretPut}
use Rattle.kms_record.specs.Fields.{u8_bytes, u16_bytes, u64_bytes, text_bytes, option_bytes, secret_kind_number, IsShort, IsBitLength}

-- its fields in their order
unfoldable pub secret_put_bytes : SecretPut → List ℕ
secret_put_bytes put =
    u64_bytes put.id ++ text_bytes put.project ++ text_bytes put.creator ++ u64_bytes put.created ++ u64_bytes put.updated
    ++ option_bytes text_bytes put.name ++ option_bytes text_bytes put.algorithm ++ option_bytes u16_bytes put.bit_length
    ++ option_bytes text_bytes put.mode ++ u8_bytes (secret_kind_number put.kind) ++ option_bytes u64_bytes put.expiration

-- its numbers and lengths are in their ranges
pub record IsInRange (put : SecretPut) : Type 0 where
  pub id : put.id < 2 ^ 62
  pub project : length put.project ≤ 64
  pub creator : length put.creator ≤ 64
  pub created : put.created < end_of_times
  pub updated : put.updated < end_of_times
  pub name : IfSome put.name IsShort
  pub algorithm : IfSome put.algorithm IsShort
  pub bit_length : IfSome put.bit_length IsBitLength
  pub mode : IfSome put.mode IsShort
  pub expiration : IfSome put.expiration (λ t. t < end_of_times)

-- its names are names, and its texts UTF-8, as they are in every value of the program
pub record IsTextual (put : SecretPut) : Type 0 where
  pub project : is_name put.project ≡ true
  pub creator : is_name put.creator ≡ true
  pub name : IfSome put.name IsUtf8
  pub algorithm : IfSome put.algorithm IsUtf8
  pub mode : IfSome put.mode IsUtf8

-- the row that it puts under the store's tag: a secret without payload and metadata
abbrev pub row_of : ℕ → SecretPut → SecretRow
row_of tag put = record {
  id = record { 0 = id_number tag put.id };
  project = put.project;
  creator = put.creator;
  created = put.created;
  updated = put.updated;
  name = put.name;
  algorithm = put.algorithm;
  bit_length = put.bit_length;
  mode = put.mode;
  kind = put.kind;
  expiration = put.expiration;
  payload = None;
  metadata = [];
}

-- what puts this row's attributes, under the id of this count
abbrev pub put_of : ℕ → SecretRow → SecretPut
put_of count row = record {
  id = count;
  project = row.project;
  creator = row.creator;
  created = row.created;
  updated = row.updated;
  name = row.name;
  algorithm = row.algorithm;
  bit_length = row.bit_length;
  mode = row.mode;
  kind = row.kind;
  expiration = row.expiration;
}
