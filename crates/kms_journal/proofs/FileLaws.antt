-- The current file, and what takes its place.
use Rattle.std.proofs.Common.{◌≡◌, ◌≢◌, inl, inr, ℕ, zero, suc, ◌<◌, List, [], ◌∷◌, length, get_or, refl, sym, ◌∙◌, ap, subst, arith, Bool, true, false, cond}
use Rattle.std.specs.Prelude.{Option, Some, None, nat_lt, Ok, Err}
use Rattle.std.proofs.lemmas.Bool.Decides.{eqb_tells, nat_tests}
use Rattle.kms_host.specs.History.{History}
use Rattle.kms_host.specs.Disk.{Disk, disk, reads, files, of_file, at_rest, MayLeave, IsImage}
use Rattle.kms_host.specs.Store.{IsAttached, others, is_attached, apart_from_files}
use Rattle.kms_host.specs.declared.call.Call.{Call}
use Rattle.kms_host.specs.declared.call.Call.TheVariants.{Text, Listened, Came, Attached, Took, Gave, Shut, OnFile, Told, Drew}
use Rattle.kms_host.proofs.DiskLaws.{only_image}
use Rattle.kms_journal.specs.Device.{IsQuiet, IsQuietStore}
use Rattle.kms_journal.specs.Standing.{Standing, is_set, standing_from, standing, newer, standing_of}

-- which file it is of
headed_file : (file : ℕ) (b : Bool) (c d x : Standing) → c.file ≡ file → d.file ≡ file → cond b c d ≡ x → x.file ≡ file
headed_file file true c d x ec ed is = sym (ap (λ (y : Standing). y.file) is) ∙ ec
headed_file file false c d x ec ed is = sym (ap (λ (y : Standing). y.file) is) ∙ ed

some_of : (b : Bool) (c x : Standing) → cond b (Some c) None ≡ Some x → c ≡ x
some_of true c x is = cc
some_of false c x is = cc

pub file_is : (file : ℕ) (bytes : List ℕ) (x : Standing) → standing file bytes ≡ Some x → x.file ≡ file
unfolding standing standing_from
file_is file bytes x is = headed_file file _ _ _ x refl refl (some_of _ _ x is)

-- what the current file stands for, and what takes its place
newer_0 : (a b : Option Standing) (c : Standing) → newer a b ≡ Some c → c.file ≡ 0 → ((x : Standing) → b ≡ Some x → x.file ≡ 1)
    → (a ≡ Some c) × ((s : Standing) → s.generation ≡ c.generation → newer (Some s) b ≡ Some s)
newer_0 None None c is here there = cc
newer_0 None (Some b) c is here there =
    let same : b ≡ c = cc in
    absurd (omega (arith, there b refl, ap (λ (y : Standing). y.file) same, here))
newer_0 (Some a) None c is here there = (is, λ s e. refl)
newer_0 (Some a) (Some b) c is here there = by_test (nat_lt a.generation b.generation) refl is
  where
    by_test : (t : Bool) → nat_lt a.generation b.generation ≡ t → cond t (Some b) (Some a) ≡ Some c → (Some a ≡ Some c) × ((s : Standing) → s.generation ≡ c.generation → newer (Some s) (Some b) ≡ Some s)
    by_test true e chosen = let same : b ≡ c = cc in absurd (omega (arith, there b refl, ap (λ (y : Standing). y.file) same, here))
    by_test false e chosen =
        let same : a ≡ c = cc in
        (chosen, λ s gen. ap (λ (t : Bool). cond t (Some b) (Some s)) (ap (λ (n : ℕ). nat_lt n b.generation) (gen ∙ sym (ap (λ (y : Standing). y.generation) same)) ∙ e))

newer_1 : (a b : Option Standing) (c : Standing) → newer a b ≡ Some c → c.file ≡ 1 → ((x : Standing) → a ≡ Some x → x.file ≡ 0)
    → (b ≡ Some c) × ((s : Standing) → s.generation ≡ c.generation → newer a (Some s) ≡ Some s)
newer_1 None None c is here there = cc
newer_1 None (Some b) c is here there = (is, λ s e. refl)
newer_1 (Some a) None c is here there =
    let same : a ≡ c = cc in
    absurd (omega (arith, there a refl, ap (λ (y : Standing). y.file) same, here))
newer_1 (Some a) (Some b) c is here there = by_test (nat_lt a.generation b.generation) refl is
  where
    by_test : (t : Bool) → nat_lt a.generation b.generation ≡ t → cond t (Some b) (Some a) ≡ Some c → (Some b ≡ Some c) × ((s : Standing) → s.generation ≡ c.generation → newer (Some a) (Some s) ≡ Some s)
    by_test false e chosen = let same : a ≡ c = cc in absurd (omega (arith, there a refl, ap (λ (y : Standing). y.file) same, here))
    by_test true e chosen =
        let same : b ≡ c = cc in
        (chosen, λ s gen. ap (λ (t : Bool). cond t (Some s) (Some a)) (ap (λ (n : ℕ). nat_lt a.generation n) (gen ∙ sym (ap (λ (y : Standing). y.generation) same)) ∙ e))

pub own_standing : (f : ℕ) → f < 2 → (old : List ℕ × List ℕ) (c : Standing) → standing_of old ≡ Some c → c.file ≡ f → standing f (of_file f old) ≡ Some c
own_standing zero lt old c is here = (newer_0 (standing 0 old.0) (standing 1 old.1) c is here (file_is 1 old.1)).0
own_standing (suc zero) lt old c is here = (newer_1 (standing 0 old.0) (standing 1 old.1) c is here (file_is 0 old.0)).0
own_standing (suc (suc f)) lt old c is here = absurd (omega arith)

-- the other file as before, and in this one something of the same generation
pub replaced : (f : ℕ) → f < 2 → (old new : List ℕ × List ℕ) (c s : Standing) → standing_of old ≡ Some c → c.file ≡ f → ((g : ℕ) → g < 2 → f ≢ g → of_file g new ≡ of_file g old)
    → s.generation ≡ c.generation → standing f (of_file f new) ≡ Some s → standing_of new ≡ Some s
replaced zero lt old new c s is here other gen stands =
    let same : new.1 ≡ old.1 = other 1 (omega arith) (λ e. cc) in
    ap (λ (a : Option Standing). newer a (standing 1 new.1)) stands ∙ ap (λ (l : List ℕ). newer (Some s) (standing 1 l)) same
    ∙ (newer_0 (standing 0 old.0) (standing 1 old.1) c is here (file_is 1 old.1)).1 s gen
replaced (suc zero) lt old new c s is here other gen stands =
    let same : new.0 ≡ old.0 = other 0 (omega arith) (λ e. cc) in
    ap (λ (b : Option Standing). newer (standing 0 new.0) b) stands ∙ ap (λ (l : List ℕ). newer (standing 0 l) (Some s)) same
    ∙ (newer_1 (standing 0 old.0) (standing 1 old.1) c is here (file_is 0 old.0)).1 s gen
replaced (suc (suc f)) lt old new c s is here other gen stands = absurd (omega arith)

pub image_of : (f : ℕ) → f < 2 → (h : History) (image : List ℕ × List ℕ) → IsImage h image → MayLeave (disk f h) (of_file f image)
image_of zero lt h image i = i.file_0
image_of (suc zero) lt h image i = i.file_1
image_of (suc (suc f)) lt h image i = absurd (omega arith)

pub file_of : (f : ℕ) → f < 2 → (h : History) → of_file f (files h) ≡ reads f h
file_of zero lt h = refl
file_of (suc zero) lt h = refl
file_of (suc (suc f)) lt h = absurd (omega arith)

-- a part of a crash image of a file with nothing pending
pub quiet_part : (g : ℕ) → g < 2 → (was q : History) → IsQuiet g was → disk g q ≡ disk g was → (image : List ℕ × List ℕ) → IsImage q image → of_file g image ≡ of_file g (files was)
quiet_part g low was q quiet same image is =
    only_image (reads g was) (of_file g image) (subst (λ d. MayLeave d (of_file g image)) (same ∙ quiet) (image_of g low q image is)) ∙ sym (file_of g low was)

-- commit marks that aren't set
pub clear_0 : (junk : List ℕ) → is_set (0 ∷ junk) ≡ false
clear_0 [] = refl
clear_0 (x ∷ junk) = refl

pub clear_not : (b : ℕ) (junk : List ℕ) → b ≢ 1 → is_set (b ∷ junk) ≡ false
clear_not b [] ne = refl
clear_not b (x ∷ junk) ne = grind (arith, nat_tests)

pub one_left : (l : List ℕ) → length l ≡ 1 → l ≡ get_or l 0 0 ∷ []
one_left [] e = absurd (omega arith)
one_left (x ∷ []) e = refl
one_left (x ∷ y ∷ l) e = absurd (omega arith)

-- nothing is pending on a file that is at rest
pub rested : (file : ℕ) (h : History) (bytes : List ℕ) → disk file h ≡ at_rest bytes → IsQuiet file h
rested file h bytes is = is ∙ ap at_rest (sym (ap (λ (d : Disk). d.reads) is))

-- nothing is pending where this file is quiet and the other as it was
pub still_quiet : (file : ℕ) (was now : History) → IsQuiet file now → ((g : ℕ) → file ≢ g → disk g now ≡ disk g was) → IsQuietStore was → IsQuietStore now
still_quiet file was now here other quiet f low = elim (eqb_tells file f) [
  | inl p ↦ subst (λ (g : ℕ). IsQuiet g now) p.1 here
  | inr p ↦ other f p.1 ∙ quiet f low ∙ ap (λ (d : Disk). at_rest d.reads) (sym (other f p.1))
]

-- whether the store is attached depends on the calls that are not on files
attached_apart : (calls : List Call) → is_attached calls ≡ is_attached (apart_from_files calls)
attached_apart [] = refl
attached_apart (Text name room bytes ∷ calls) = attached_apart calls
attached_apart (Listened address done ∷ calls) = attached_apart calls
attached_apart (Came line ∷ calls) = attached_apart calls
attached_apart (Attached name (Ok done) ∷ calls) = refl
attached_apart (Attached name (Err fault) ∷ calls) = attached_apart calls
attached_apart (Took l room bytes ∷ calls) = attached_apart calls
attached_apart (Gave l piece went ∷ calls) = attached_apart calls
attached_apart (Shut l ∷ calls) = attached_apart calls
attached_apart (OnFile file c ∷ calls) = attached_apart calls
attached_apart (Told t ∷ calls) = attached_apart calls
attached_apart (Drew purpose bytes ∷ calls) = attached_apart calls

pub still_attached : (was now : History) → others now ≡ others was → IsAttached was → IsAttached now
still_attached was now same a = record { done = attached_apart now.calls ∙ ap is_attached same ∙ sym (attached_apart was.calls) ∙ a.done }
