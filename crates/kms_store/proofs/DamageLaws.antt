-- A store that files of bytes stand for is whole or has one first damage.
use Rattle.std.proofs.Common.{◌≡◌, ◌⊎◌, inl, inr, ℕ, ◌≤◌, ◌<◌, ◌^◌, zero, suc, ◌+◌, Bool, true, false, List, [], ◌∷◌, length, take, drop, nat_lt, nat_le, Option, Some, None, cond, refl, sym, subst, ◌∙◌, arith}
use Rattle.std.specs.Prelude.{◌&&◌}
use Rattle.std.proofs.lemmas.Bool.{ltb-true, leb-true, le-leb, false≢true}
use Rattle.kms_record.specs.declared.change.Change.{Change}
use Rattle.kms_record.specs.Grammar.{IsRecord, IsSnapshot}
use Rattle.kms_record.specs.GrammarReading.{record_of, snapshot_of}
use Rattle.kms_kept.specs.Kept.{Kept, Base, after_changes, after_record, kept_first}
use Rattle.kms_record.proofs.Codec.{IsBytes-drop, IsBytes-take}
use Rattle.kms_record.proofs.GrammarLaws.{record_read, record_again, snapshot_read, snapshot_again}
use Rattle.kms_journal.specs.Standing.{Standing, Records, is_set, record_len, record_in, is_record_whole, with_item, stopped, records_from, is_based, headed, standing_from, standing, standing_of, newer}
use Rattle.kms_journal.specs.Header.{is_header, snapshot_len}
use Rattle.kms_store.specs.Stands.{Applies, LeadTo, IsBroken, BreakAt, AreBytes, IsSnapshotOf, IsNoSnapshot, IsDamagedAt, IsWholeOrDamaged}
use Rattle.kms_store.proofs.StandsLaws.{some_is, applies_once, applies_or_not, broken_by, no_snapshot_by, one_first}

one_break : (items : List (ℕ × List ℕ)) (stop : ℕ) (is_whole : Bool) (kept : Kept) (a b : ℕ) → BreakAt items stop is_whole kept a → BreakAt items stop is_whole kept b → a ≡ b
one_break [] stop is_whole kept a b p q = p.1 ∙ sym q.1
one_break (item ∷ items) stop is_whole kept a b (inl p) (inl q) = p.1 ∙ sym q.1
one_break (item ∷ items) stop is_whole kept a b (inl p) (inr q) = absurd (applies_or_not item.1 kept q.0 q.1 p.0)
one_break (item ∷ items) stop is_whole kept a b (inr p) (inl q) = absurd (applies_or_not item.1 kept p.0 p.1 q.0)
one_break (item ∷ items) stop is_whole kept a b (inr p) (inr q) =
    one_break items stop is_whole q.0 a b (subst (λ (k : Kept). BreakAt items stop is_whole k a) (applies_once item.1 kept p.0 q.0 p.1 q.1) p.2) q.2

pub one_damage : (s : Standing) (a b : ℕ) → IsDamagedAt s a → IsDamagedAt s b → a ≡ b
one_damage s a b (inl p) (inl q) = p.1 ∙ sym q.1
one_damage s a b (inl p) (inr q) = absurd (p.0 q.0 q.1)
one_damage s a b (inr p) (inl q) = absurd (q.0 p.0 p.1)
one_damage s a b (inr p) (inr q) =
    one_break s.records s.stop s.is_whole q.0 a b (subst (λ (k : Kept). BreakAt s.records s.stop s.is_whole k a) (one_first s.tag s.ids s.snapshot p.0 q.0 p.1 q.1) p.2) q.2

-- Records of bytes lead on, or break.

abbrev AreAllBytes : List (ℕ × List ℕ) → Type 0
AreAllBytes [] = Unit {0}
AreAllBytes (item ∷ items) = AreBytes item.1 × AreAllBytes items

abbrev Walked : List (ℕ × List ℕ) → ℕ → Bool → Kept → Type 0
Walked items stop is_whole kept = ((after : Kept) × LeadTo items kept after × (is_whole ≡ true)) ⊎ ((place : ℕ) × BreakAt items stop is_whole kept place)

one_more : (item : ℕ × List ℕ) (items : List (ℕ × List ℕ)) (stop : ℕ) (is_whole : Bool) (kept next : Kept) → Applies item.1 kept next → Walked items stop is_whole next
    → Walked (item ∷ items) stop is_whole kept
one_more item items stop is_whole kept next applies (inl fine) = inl (fine.0, (next, applies, fine.1), fine.2)
one_more item items stop is_whole kept next applies (inr bad) = inr (bad.0, inr (next, applies, bad.1))

by_kept : (item : ℕ × List ℕ) (items : List (ℕ × List ℕ)) (stop : ℕ) (is_whole : Bool) (kept : Kept) (steps : List (List Change)) → IsRecord item.1 steps → (o : Option Kept)
    → after_record steps kept ≡ o → ((next : Kept) → Walked items stop is_whole next) → Walked (item ∷ items) stop is_whole kept
by_kept item items stop is_whole kept steps is None e later = inr (item.0, inl (broken_by item.1 steps kept is e, refl))
by_kept item items stop is_whole kept steps is (Some next) e later = one_more item items stop is_whole kept next (record { steps = steps; read = is; leads = e }) (later next)

unread : (bytes : List ℕ) (kept : Kept) → record_of bytes ≡ None → IsBroken bytes kept
unread bytes kept e steps is = let no : Some steps ≡ None = sym (record_again bytes steps is) ∙ e in cc

by_reading : (item : ℕ × List ℕ) (items : List (ℕ × List ℕ)) (stop : ℕ) (is_whole : Bool) (kept : Kept) → AreBytes item.1 → (o : Option (List (List Change))) → record_of item.1 ≡ o
    → ((next : Kept) → Walked items stop is_whole next) → Walked (item ∷ items) stop is_whole kept
by_reading item items stop is_whole kept bytes None e later = inr (item.0, inl (unread item.1 kept e, refl))
by_reading item items stop is_whole kept bytes (Some steps) e later = by_kept item items stop is_whole kept steps (record_read item.1 steps bytes e) (after_record steps kept) refl later

walked : (items : List (ℕ × List ℕ)) → AreAllBytes items → (stop : ℕ) (is_whole : Bool) (kept : Kept) → Walked items stop is_whole kept
walked [] bytes stop true kept = inl (kept, refl, refl)
walked [] bytes stop false kept = inr (stop, (refl, refl))
walked (item ∷ items) bytes stop is_whole kept = by_reading item items stop is_whole kept bytes.0 (record_of item.1) refl (λ next. walked items bytes.1 stop is_whole next)

-- The snapshot leads to something, or to nothing.

abbrev Begins : ℕ → ℕ → List ℕ → Type 0
Begins tag ids snapshot = ((first : Kept) × IsSnapshotOf tag ids snapshot first) ⊎ IsNoSnapshot tag ids snapshot

by_first : (tag ids : ℕ) (snapshot : List ℕ) (changes : List Change) → tag < 2 ^ 60 → ids ≤ 2 ^ 62 → IsSnapshot snapshot changes → (o : Option Kept)
    → after_changes Base changes (kept_first tag ids) ≡ o → Begins tag ids snapshot
by_first tag ids snapshot changes tag_fits ids_fit is None e = inr (no_snapshot_by tag ids snapshot changes is e)
by_first tag ids snapshot changes tag_fits ids_fit is (Some first) e = inl (first, record { tag_fits = tag_fits; ids_fit = ids_fit; changes = changes; read = is; leads = e })

by_changes : (tag ids : ℕ) (snapshot : List ℕ) → tag < 2 ^ 60 → ids ≤ 2 ^ 62 → AreBytes snapshot → (o : Option (List Change)) → snapshot_of snapshot ≡ o → Begins tag ids snapshot
by_changes tag ids snapshot tag_fits ids_fit bytes None e = inr (λ kept of. let no : Some of.changes ≡ None = sym (snapshot_again snapshot of.changes of.read) ∙ e in cc)
by_changes tag ids snapshot tag_fits ids_fit bytes (Some changes) e = by_first tag ids snapshot changes tag_fits ids_fit (snapshot_read snapshot changes bytes e) (after_changes Base changes (kept_first tag ids)) refl

begins : (tag ids : ℕ) (snapshot : List ℕ) → AreBytes snapshot → Begins tag ids snapshot
begins tag ids snapshot bytes = by_tag (nat_lt tag (2 ^ 60)) (nat_le ids (2 ^ 62)) refl refl
  where
    by_tag : (t i : Bool) → nat_lt tag (2 ^ 60) ≡ t → nat_le ids (2 ^ 62) ≡ i → Begins tag ids snapshot
    by_tag false i e f = inr (λ kept of. false≢true (sym e ∙ le-leb _ _ of.tag_fits))
    by_tag true false e f = inr (λ kept of. false≢true (sym f ∙ le-leb _ _ of.ids_fit))
    by_tag true true e f = by_changes tag ids snapshot (ltb-true tag (2 ^ 60) e) (leb-true ids (2 ^ 62) f) bytes (snapshot_of snapshot) refl

decided : (s : Standing) → AreBytes s.snapshot → AreAllBytes s.records → IsWholeOrDamaged s
decided s base bytes = elim (begins s.tag s.ids s.snapshot base) [
  | inl first ↦ by_records first.0 first.1
  | inr none ↦ inr (0, inl (none, refl))
]
  where
    by_records : (first : Kept) → IsSnapshotOf s.tag s.ids s.snapshot first → IsWholeOrDamaged s
    by_records first of = elim (walked s.records bytes s.stop s.is_whole first) [
      | inl fine ↦ inl (fine.0, record { whole = fine.2; first = first; snapshot = of; records = fine.1 })
      | inr bad ↦ inr (bad.0, inr (first, of, bad.1))
    ]

-- The snapshot and the records of a file of bytes are bytes.

abbrev IsOfBytes : Standing → Type 0
IsOfBytes s = AreBytes s.snapshot × AreAllBytes s.records

with_next : (set whole : Bool) (place : ℕ) (item : List ℕ) (more : Records) → AreBytes item → AreAllBytes more.items
    → AreAllBytes (cond set (cond whole (with_item place item more) (stopped place false)) (stopped place true)).items
with_next true true place item more here later = (here, later)
with_next true false place item more here later = tt
with_next false whole place item more here later = tt

from_bytes : (count place : ℕ) (rest : List ℕ) → AreBytes rest → AreAllBytes (records_from count place rest).items
unfolding records_from
from_bytes zero place rest bytes = tt
from_bytes (suc count) place rest bytes =
    with_next (is_set rest) (is_record_whole rest) place (record_in rest) (records_from count (place + 5 + record_len rest) (drop (5 + record_len rest) rest))
    (IsBytes-take (record_len rest) (drop 5 rest) (IsBytes-drop 5 rest bytes)) (from_bytes count (place + 5 + record_len rest) (drop (5 + record_len rest) rest) (IsBytes-drop (5 + record_len rest) rest bytes))

no_bytes : AreBytes []
no_bytes i = omega arith

from_based : (t : Bool) (file : ℕ) (head snapshot : List ℕ) (r : Records) → AreBytes snapshot → AreAllBytes r.items → IsOfBytes (cond t (headed file head snapshot r) (headed file head [] (stopped 0 false)))
from_based true file head snapshot r base items = (base, items)
from_based false file head snapshot r base items = (no_bytes, tt)

standing_from_bytes : (file : ℕ) (head bytes : List ℕ) → AreBytes bytes → IsOfBytes (standing_from file head bytes)
unfolding standing_from
standing_from_bytes file head bytes are =
    let start = 50 + snapshot_len head in
    from_based (is_based head bytes) file head (take (snapshot_len head) (drop 50 bytes)) (records_from (length bytes) start (drop start bytes))
    (IsBytes-take (snapshot_len head) (drop 50 bytes) (IsBytes-drop 50 bytes are)) (from_bytes (length bytes) start (drop start bytes) (IsBytes-drop start bytes are))

if_there : (t : Bool) (x s : Standing) → IsOfBytes x → cond t (Some x) None ≡ Some s → IsOfBytes s
if_there true x s bytes e = subst IsOfBytes (some_is x s e) bytes
if_there false x s bytes e = cc

standing_bytes : (file : ℕ) (bytes : List ℕ) (s : Standing) → AreBytes bytes → standing file bytes ≡ Some s → IsOfBytes s
unfolding standing
standing_bytes file bytes s are e =
    if_there (is_header (take 50 bytes) && nat_lt 50 (length bytes)) (standing_from file (take 50 bytes) bytes) s (standing_from_bytes file (take 50 bytes) bytes are) e

-- one of the two
one_of : (a b : Option Standing) (s : Standing) → ((x : Standing) → a ≡ Some x → IsOfBytes x) → ((x : Standing) → b ≡ Some x → IsOfBytes x) → newer a b ≡ Some s → IsOfBytes s
one_of None b s first second e = second s e
one_of (Some a) None s first second e = first s e
one_of (Some a) (Some b) s first second e = by_test (nat_lt a.generation b.generation) e
  where
    by_test : (t : Bool) → cond t (Some b) (Some a) ≡ Some s → IsOfBytes s
    by_test true f = second s f
    by_test false f = first s f

pub whole_or_damaged : (two : List ℕ × List ℕ) (s : Standing) → AreBytes two.0 → AreBytes two.1 → standing_of two ≡ Some s → IsWholeOrDamaged s
whole_or_damaged two s first second is =
    let bytes = one_of (standing 0 two.0) (standing 1 two.1) s (λ x. standing_bytes 0 two.0 x first) (λ x. standing_bytes 1 two.1 x second) is in
    decided s bytes.0 bytes.1
