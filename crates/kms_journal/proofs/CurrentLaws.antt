-- What is found of the current file, and what the files stand for.
use Rattle.std.proofs.Common.{◌≡◌, ℕ, ◌≤◌, ◌<◌, List, length, take, refl, sym, ◌∙◌, ap, subst, arith, Bool, true, false, cond}
use Rattle.std.specs.Prelude.{Option, Some, None, nat_lt, ◌&&◌, is_some}
use Rattle.std.proofs.lemmas.Bool.{lt-ltb, ltb-true, and_parts, and_from, and_left}
use Rattle.kms_host.specs.Disk.{of_file}
use Rattle.kms_journal.specs.Current.{IsHead, IsTold, IsCurrentOf, newer_current}
use Rattle.kms_journal.specs.Header.{number_in, is_header}
use Rattle.kms_journal.specs.Standing.{Standing, is_based, standing_from, standing, newer, standing_of}
use Rattle.kms_journal.specs.declared.header.Current.{Current}
use Rattle.kms_journal.specs.declared.header.Header.{Header}

-- a file of 50 bytes or fewer, and one of another header, stand for nothing
pub too_short : (file : ℕ) (bytes : List ℕ) → length bytes ≤ 50 → standing file bytes ≡ None
unfolding standing
too_short file bytes short = by_test (is_header (take 50 bytes) && nat_lt 50 (length bytes)) refl
  where
    by_test : (t : Bool) → (is_header (take 50 bytes) && nat_lt 50 (length bytes)) ≡ t → cond (is_header (take 50 bytes) && nat_lt 50 (length bytes)) (Some (standing_from file (take 50 bytes) bytes)) None ≡ None
    by_test true e = absurd (omega (arith, ltb-true 50 (length bytes) (and_parts (is_header (take 50 bytes)) (nat_lt 50 (length bytes)) e).1, short))
    by_test false e = ap (λ (b : Bool). cond b (Some (standing_from file (take 50 bytes) bytes)) None) e

pub no_header : (file : ℕ) (bytes : List ℕ) → is_header (take 50 bytes) ≡ false → standing file bytes ≡ None
unfolding standing
no_header file bytes not = ap (λ (b : Bool). cond b (Some (standing_from file (take 50 bytes) bytes)) None) (and_left _ _ not)

pub stands_by : (file : ℕ) (bytes : List ℕ) → is_header (take 50 bytes) ≡ true → 50 < length bytes → standing file bytes ≡ Some (standing_from file (take 50 bytes) bytes)
unfolding standing
stands_by file bytes whole long = ap (λ (b : Bool). cond b (Some (standing_from file (take 50 bytes) bytes)) None) (and_from _ _ whole (lt-ltb 50 (length bytes) long))

one_of : (t : Bool) (x y : Standing) (n : ℕ) → x.generation ≡ n → y.generation ≡ n → (cond t x y).generation ≡ n
one_of true x y n a b = a
one_of false x y n a b = b

pub generation_is : (file : ℕ) (head bytes : List ℕ) → (standing_from file head bytes).generation ≡ number_in 10 head
unfolding standing_from
generation_is file head bytes = one_of (is_based head bytes) _ _ (number_in 10 head) refl refl

-- the one that is found is the current one
module _ (b0 b1 : List ℕ) where
  there : (c : Current) (f : ℕ) → c.header.file ≡ f → standing_of (b0, b1) ≡ standing f (of_file f (b0, b1)) → IsTold c (of_file f (b0, b1)) → IsCurrentOf (b0, b1) (Some c)
  there c f of is told = (
    is ∙ ap (λ (g : ℕ). standing g (of_file g (b0, b1))) (sym of),
    subst (λ (g : ℕ). IsTold c (of_file g (b0, b1))) (sym of) told,
  )

  generation_of : (f : ℕ) (bytes : List ℕ) (c : Current) → IsTold c bytes → (standing_from f (take 50 bytes) bytes).generation ≡ c.header.generation
  generation_of f bytes c told = generation_is f (take 50 bytes) bytes ∙ sym (ap (λ (h : Header). h.generation) told.header)

  by_generation : (c d : Current) → IsHead 0 b0 (Some c) → IsHead 1 b1 (Some d) → (t : Bool) → nat_lt c.header.generation d.header.generation ≡ t → IsCurrentOf (b0, b1) (cond t (Some d) (Some c))
  by_generation c d a b t e =
      let x = standing_from 0 (take 50 b0) b0 in
      let y = standing_from 1 (take 50 b1) b1 in
      let first : standing 0 b0 ≡ Some x = stands_by 0 b0 a.1.whole a.1.long in
      let second : standing 1 b1 ≡ Some y = stands_by 1 b1 b.1.whole b.1.long in
      let test : nat_lt x.generation y.generation ≡ t =
      ap (λ (n : ℕ). nat_lt n y.generation) (generation_of 0 b0 c a.1) ∙ ap (nat_lt c.header.generation) (generation_of 1 b1 d b.1) ∙ e in
      let is : standing_of (b0, b1) ≡ cond t (Some y) (Some x) =
      ap (λ (o : Option Standing). newer o (standing 1 b1)) first ∙ ap (newer (Some x)) second ∙ ap (λ (u : Bool). cond u (Some y) (Some x)) test in
      chosen t (is ∙ ap (cond t (Some y)) (sym first) ∙ ap (λ (o : Option Standing). cond t o (standing 0 b0)) (sym second))
    where
      chosen : (t : Bool) → standing_of (b0, b1) ≡ cond t (standing 1 b1) (standing 0 b0) → IsCurrentOf (b0, b1) (cond t (Some d) (Some c))
      chosen true is = there d 1 b.0 is b.1
      chosen false is = there c 0 a.0 is a.1

  pub both_found : (first second : Option Current) → IsHead 0 b0 first → IsHead 1 b1 second → IsCurrentOf (b0, b1) (newer_current first second)
  both_found None None a b = ap (λ (x : Option Standing). newer x (standing 1 b1)) a ∙ b
  both_found None (Some d) a b = there d 1 b.0 (ap (λ (x : Option Standing). newer x (standing 1 b1)) a) b.1
  both_found (Some c) None a b =
      there c 0 a.0
      (ap (λ (x : Option Standing). newer (standing 0 b0) x) b
      ∙ ap (λ (x : Option Standing). newer x None) (stands_by 0 b0 a.1.whole a.1.long) ∙ sym (stands_by 0 b0 a.1.whole a.1.long))
      a.1
  both_found (Some c) (Some d) a b = by_generation c d a b (nat_lt c.header.generation d.header.generation) refl

pub found_stands : (files : List ℕ × List ℕ) (found : Option Current) → IsCurrentOf files found → is_some found ≡ is_some (standing_of files)
found_stands files None is = ap is_some (sym is)
found_stands files (Some c) is = ap is_some (sym (is.0 ∙ stands_by c.header.file (of_file c.header.file files) is.1.whole is.1.long))
