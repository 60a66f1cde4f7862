-- The count of an id under a store's tag is in its last 62 bits.
use Rattle.std.proofs.Common.{◌≡◌, ℕ, ◌<◌, ◌^◌, ap, arith}
use Rattle.kms_world.specs.Id.{id_number, id_at}
use Rattle.kms_record.specs.Base.{count_of}

pub count_back : (tag count : ℕ) → count < 2 ^ 62 → count_of (id_at tag count) ≡ count
count_back tag count lt = omega (arith, lt)

pub id_back : (tag count : ℕ) → count < 2 ^ 62 → id_at tag (count_of (id_at tag count)) ≡ id_at tag count
id_back tag count lt = ap (id_at tag) (count_back tag count lt)

pub less_count : (tag a b : ℕ) → id_number tag a < id_number tag b → a < b
less_count tag a b lt = omega (arith, lt)
