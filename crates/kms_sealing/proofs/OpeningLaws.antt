-- Opening all that is kept, one after the other.
use Rattle.std.proofs.Common.{◌≡◌, ℕ, ◌+◌, ◌<◌, ◌≤◌, List, [], ◌∷◌, ◌++◌, length, take, drop, get_or, refl, sym, ap, subst, ◌∙◌}
use Rattle.std.specs.List.{AllByRecursion, AllZip}
use Rattle.std.proofs.lemmas.List.{take_all, take_more, drop_more, take-append-drop}
use Rattle.kms_ring.specs.Ring.{IsUnwrapped, IsUnderNone}
use Rattle.kms_world.specs.declared.secret.SecretRow.{SecretRow}
use Rattle.kms_record.specs.declared.key.WrappedKey.{WrappedKey}
use Rattle.kms_kept.specs.Kept.{Kept}
use Rattle.kms_opened.specs.Opened.{KeyOpens, OpensRow}
use Rattle.kms_sealing.specs.Opening.{IsOpen, IsUnknown, PayloadOpens, IsClosed, IsRefusal, IsUnwrapRefusal, IsOpenRefusal}
use Rattle.kms_sealing.specs.declared.fault.OpeningFault.{OpeningFault}
use Rattle.kms_sealing.specs.declared.fault.OpeningFault.TheVariants.{UnknownMaster, Damaged, NoMemory}
use Rattle.kms_sealing.proofs.PlaceLaws.{zip_push, all_push}

module _ (masters : List (List ℕ)) where
  abbrev pub IsOf : WrappedKey → List ℕ → Type 0
  IsOf row key = IsUnwrapped masters row.wrapped key

  -- ---- keys

  pub zip_opens : (rows : List WrappedKey) (keys : List (List ℕ)) → AllZip IsOf rows keys → AllByRecursion (KeyOpens masters) rows
  zip_opens [] [] each = tt
  zip_opens [] (k ∷ keys) each = absurd each
  zip_opens (r ∷ rows) [] each = absurd each
  zip_opens (r ∷ rows) (k ∷ keys) each = (record { key = k; opens = each.0 }, zip_opens rows keys each.1)

  -- one key more
  pub one_more : (rows : List WrappedKey) (keys : List (List ℕ)) (row : WrappedKey) (key : List ℕ) (i : ℕ) → i < length rows → row ≡ get_or rows i row → AllZip IsOf (take i rows) keys → IsUnwrapped masters row.wrapped key
      → AllZip IsOf (take (i + 1) rows) (keys ++ key ∷ [])
  one_more rows keys row key i lt is each opens =
      subst (λ (rs : List WrappedKey). AllZip IsOf rs (keys ++ key ∷ [])) (sym (take_more rows i row lt ∙ ap (λ (r : WrappedKey). take i rows ++ r ∷ []) (sym is)))
      (zip_push IsOf (take i rows) keys row key each opens)

  pub all_of : (rows : List WrappedKey) (keys : List (List ℕ)) (i : ℕ) → length rows ≤ i → AllZip IsOf (take i rows) keys → AllZip IsOf rows keys
  all_of rows keys i le each = subst (λ (rs : List WrappedKey). AllZip IsOf rs keys) (take_all i rows le) each

  split_at : {A : Type 0} (xs : List A) (x : A) (i : ℕ) → i < length xs → x ≡ get_or xs i x → xs ≡ take i xs ++ x ∷ drop (i + 1) xs
  split_at xs x i lt is = sym (take-append-drop i xs) ∙ ap (λ rest. take i xs ++ rest) (drop_more xs i x lt ∙ ap (λ y. y ∷ drop (i + 1) xs) (sym is))

  pub unknown_here : (rows : List WrappedKey) (keys : List (List ℕ)) (row : WrappedKey) (i : ℕ) → i < length rows → row ≡ get_or rows i row → AllZip IsOf (take i rows) keys → IsUnderNone masters row.wrapped
      → IsUnknown masters rows row.project
  unknown_here rows keys row i lt is each closed = record {
    before = take i rows;
    row = row;
    after = drop (i + 1) rows;
    rows_are = split_at rows row i lt is;
    opened = zip_opens (take i rows) keys each;
    closed = closed;
    named = refl;
  }

  -- ---- payloads

  module _ (keys : List WrappedKey) where
    pub secret_more : (rows : List SecretRow) (row : SecretRow) (i : ℕ) → i < length rows → row ≡ get_or rows i row → AllByRecursion (PayloadOpens masters keys) (take i rows) → PayloadOpens masters keys row
        → AllByRecursion (PayloadOpens masters keys) (take (i + 1) rows)
    secret_more rows row i lt is each opens =
        subst (AllByRecursion (PayloadOpens masters keys)) (sym (take_more rows i row lt ∙ ap (λ (r : SecretRow). take i rows ++ r ∷ []) (sym is)))
        (all_push (PayloadOpens masters keys) (take i rows) row each opens)

    pub secrets_all : (rows : List SecretRow) (i : ℕ) → length rows ≤ i → AllByRecursion (PayloadOpens masters keys) (take i rows) → AllByRecursion (PayloadOpens masters keys) rows
    secrets_all rows i le each = subst (AllByRecursion (PayloadOpens masters keys)) (take_all i rows le) each

    pub closed_here : (rows : List SecretRow) (row : SecretRow) (i : ℕ) → i < length rows → row ≡ get_or rows i row → AllByRecursion (PayloadOpens masters keys) (take i rows) → (PayloadOpens masters keys row → ⊥)
        → IsClosed masters keys rows row.id
    closed_here rows row i lt is each closed = record {
      before = take i rows;
      row = row;
      after = drop (i + 1) rows;
      rows_are = split_at rows row i lt is;
      opened = each;
      closed = closed;
      named = refl;
    }

    -- the opened rows
    opened_row : (row : SecretRow) → PayloadOpens masters keys row → SecretRow
    opened_row row opens = record row { payload = opens.0 }

    opened_rows : (rows : List SecretRow) → AllByRecursion (PayloadOpens masters keys) rows → List SecretRow
    opened_rows [] each = []
    opened_rows (row ∷ rows) each = opened_row row each.0 ∷ opened_rows rows each.1

    row_opens : (row : SecretRow) (opens : PayloadOpens masters keys row) → OpensRow masters keys row (opened_row row opens)
    unfolding opened_row
    row_opens row opens = record { same = refl; payload = opens.1 }

    rows_open : (rows : List SecretRow) (each : AllByRecursion (PayloadOpens masters keys) rows) → AllZip (OpensRow masters keys) rows (opened_rows rows each)
    unfolding opened_rows
    rows_open [] each = tt
    rows_open (row ∷ rows) each = (row_opens row each.0, rows_open rows each.1)

  -- where every key and every payload opens, all that is kept opens to a state
  pub is_open : (kept : Kept) → AllByRecursion (KeyOpens masters) kept.keys → AllByRecursion (PayloadOpens masters kept.keys) kept.state.secrets → IsOpen masters kept
  is_open kept keys each = (
    record kept.state { secrets = opened_rows kept.keys kept.state.secrets each },
    record { keys = keys; secrets = rows_open kept.keys kept.state.secrets each; others = refl },
  )

  pub unwrap_refusal : (kept : Kept) (fault : OpeningFault) → IsUnwrapRefusal masters kept.keys fault → IsRefusal masters kept fault
  unwrap_refusal kept (UnknownMaster project) is = is
  unwrap_refusal kept (Damaged id) is = absurd is
  unwrap_refusal kept NoMemory is = tt

  pub open_refusal : (kept : Kept) (fault : OpeningFault) → AllByRecursion (KeyOpens masters) kept.keys → IsOpenRefusal masters kept.keys kept.state.secrets fault → IsRefusal masters kept fault
  open_refusal kept (UnknownMaster project) keys is = absurd is
  open_refusal kept (Damaged id) keys is = record { keys = keys; secret = is }
  open_refusal kept NoMemory keys is = tt
