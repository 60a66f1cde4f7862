-- What emptying leaves of a file is no newer than what it had.
use Rattle.std.proofs.Common.{◌≡◌, ◌≢◌, ◌⊎◌, inl, inr, ℕ, zero, suc, ◌≤◌, ◌<◌, max, List, [], ◌∷◌, length, get_or, take, refl, sym, ◌∙◌, ap, subst, arith, true, false, length-take}
use Rattle.std.specs.Prelude.{Option, Some, None, ◌&&◌, nat_lt, nat_eq}
use Rattle.std.proofs.lemmas.List.{ext_get_or, get_or-take}
use Rattle.std.proofs.lemmas.Bool.{ltb-true, cases_eq, and_left, and_parts}
use Rattle.std.proofs.lemmas.Bool.Decides.{eqb_tells}
use Rattle.std.proofs.lemmas.Option.{cond_some}
use Rattle.kms_host.specs.Disk.{Disk, MayLeave, IsOutside}
use Rattle.kms_journal.specs.Emptying.{IsNoNewer}
use Rattle.kms_journal.specs.Header.{number_in, is_header}
use Rattle.kms_journal.specs.Standing.{Standing, standing_from, standing}
use Rattle.kms_journal.proofs.CurrentLaws.{no_header, stands_by, generation_is}

-- a first byte that is no commit mark that is set
clear_head : (l : List ℕ) → get_or l 0 0 ≢ 1 → is_header (take 50 l) ≡ false
unfolding is_header
clear_head [] ne = refl
clear_head (x ∷ l) ne = let clear : nat_eq x 1 ≡ false = elim (eqb_tells x 1) [ inl p ↦ absurd (ne p.1) | inr p ↦ p.0 ] in and_left _ _ (and_left _ _ (and_left _ _ clear))

pub none_of : (file : ℕ) (l : List ℕ) → get_or l 0 0 ≢ 1 → standing file l ≡ None
none_of file l ne = no_header file l (clear_head l ne)

-- a file that stands for something has a whole header, which tells its generation
record IsHeaded (bytes : List ℕ) (y : Standing) : Type 0 where
  header : is_header (take 50 bytes) ≡ true
  long : 50 < length bytes
  generation : y.generation ≡ number_in 10 (take 50 bytes)

head_of : (file : ℕ) (bytes : List ℕ) (y : Standing) → standing file bytes ≡ Some y → IsHeaded bytes y
unfolding standing
head_of file bytes y is =
    let parts = cond_some (is_header (take 50 bytes) && nat_lt 50 (length bytes)) (standing_from file (take 50 bytes) bytes) y is in
    let tests = and_parts (is_header (take 50 bytes)) (nat_lt 50 (length bytes)) parts.0 in
    record {
      header = tests.0;
      long = ltb-true 50 (length bytes) tests.1;
      generation = ap (λ (x : Standing). x.generation) (sym parts.1) ∙ generation_is file (take 50 bytes) bytes;
    }

-- nothing is no newer, and so is the same
pub nothing_newer : (file : ℕ) (old new : List ℕ) → standing file new ≡ None → IsNoNewer file old new
nothing_newer file old new none y is = let e : None ≡ Some y = sym none ∙ is in cc

pub same_newer : (file : ℕ) (old new : List ℕ) → new ≡ old → IsNoNewer file old new
same_newer file old new same y is = (y, ap (standing file) (sym same) ∙ is, refl)

-- and nothing comes of nothing
pub still_none : (file : ℕ) (old new : List ℕ) → standing file old ≡ None → IsNoNewer file old new → standing file new ≡ None
still_none file old new none no_newer = by_new (standing file new) refl
  where
    by_new : (o : Option Standing) → standing file new ≡ o → standing file new ≡ None
    by_new None e = e
    by_new (Some y) e = let x = no_newer y e in let bad : None ≡ Some x.0 = sym none ∙ x.1 in cc

-- Only the first byte of a file may have changed, which was a commit mark that is set or not there, and the file may be
-- shorter.
only_first : (file : ℕ) (bytes image : List ℕ) → (length bytes ≡ 0) ⊎ (get_or bytes 0 0 ≡ 1) → length image ≤ max (length bytes) 1
    → ((k : ℕ) → 1 ≤ k → k < length image → k < length bytes → get_or image k 0 ≡ get_or bytes k 0) → IsNoNewer file bytes image
only_first file bytes image first most same y is = elim (cases_eq (get_or image 0 0) 1) [
  | inl set ↦
      let h = head_of file image y is in
      let heads = same_head h.long set in
      let header : is_header (take 50 bytes) ≡ true = ap is_header (sym heads) ∙ h.header in
      let long : 50 < length bytes = omega (arith, h.long, most) in
      (standing_from file (take 50 bytes) bytes, stands_by file bytes header long, h.generation ∙ ap (number_in 10) heads ∙ sym (generation_is file (take 50 bytes) bytes))
  | inr ne ↦ nothing_newer file bytes image (none_of file image ne) y is
]
  where
    was_set : 50 < length image → get_or bytes 0 0 ≡ 1
    was_set long = elim first [ inl empty ↦ absurd (omega (arith, long, most, empty)) | inr e ↦ e ]

    at : 50 < length image → get_or image 0 0 ≡ 1 → (k : ℕ) → k < 50 → get_or image k 0 ≡ get_or bytes k 0
    at long set zero lt = set ∙ sym (was_set long)
    at long set (suc k) lt = same (suc k) (omega arith) (omega (arith, lt, long)) (omega (arith, lt, long, most))

    same_head : 50 < length image → get_or image 0 0 ≡ 1 → take 50 image ≡ take 50 bytes
    same_head long set =
        ext_get_or 0 (take 50 image) (take 50 bytes) (omega (arith, length-take 50 image, length-take 50 bytes, long, most))
        (λ k lt. let low : k < 50 = omega (arith, lt, length-take 50 image) in get_or-take 50 image k 0 low ∙ at long set k low ∙ sym (get_or-take 50 bytes k 0 low))

-- what a stop may leave of a file whose first byte is being overwritten
pub overwritten : (file : ℕ) (bytes : List ℕ) (d : Disk) → (length bytes ≡ 0) ⊎ (get_or bytes 0 0 ≡ 1)
    → d.base ≡ bytes → d.ranges ≡ (0, 1) ∷ [] → d.longest ≡ max (length bytes) 1 → (image : List ℕ) → MayLeave d image → IsNoNewer file bytes image
overwritten file bytes d first base ranges longest image may =
    only_first file bytes image first (omega (arith, may.no_longer, longest))
    (λ k low lt lt'.
    may.stays k lt (omega (arith, lt', ap length base)) (subst (IsOutside k) (sym ranges) (inr low, tt)) ∙ ap (λ (l : List ℕ). get_or l k 0) base)
