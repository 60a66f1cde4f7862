-- How many consumers a project has through its containers, in each way in which the tables change.
use Rattle.std.proofs.Common.{◌≡◌, ℕ, suc, ◌+◌, ◌≤◌, Bool, true, false, cond, List, [], ◌∷◌, ◌++◌, map, length, Option, Some, None, refl, sym, ap, subst, ◌∙◌, arith, inl, inr}
use Rattle.std.specs.Prelude.{◌&&◌, ◌==◌, filter, is_some}
use Rattle.std.specs.List.{AllByRecursion}
use Rattle.std.specs.Str.{bytes_eq}
use Rattle.std.proofs.lemmas.Bool.{cases_Bool, eqb-true, eq-eqb, ne_eqb, and_parts, or_cases}
use Rattle.std.proofs.lemmas.Option.{same_Some}
use Rattle.std.proofs.lemmas.Slice.Eq.{bytes_eq-Decides}
use Rattle.kms_world.specs.Effect.{put_row, drop_rows, is_consumer}
use Rattle.kms_world.specs.Id.{id_at, is_id}
use Rattle.kms_world.specs.LookUp.{container_of}
use Rattle.kms_world.specs.declared.id.Id.{Id}
use Rattle.kms_world.specs.declared.container.ContainerRow.{ContainerRow}
use Rattle.kms_world.specs.declared.container.ConsumerRow.{ConsumerRow}
use Rattle.kms_record.specs.Base.{container_put_of}
use Rattle.kms_record.specs.ChangeEffect.{container_at}
use Rattle.kms_record.specs.declared.change.Change.TheVariants.{ContainerPut}
use Rattle.kms_kept.specs.Apart.{IsOther}
use Rattle.kms_kept.specs.Kept.{Kept, Part, applies, has, is_new, container_ids, may_replace_container}
use Rattle.kms_kept.specs.Rising.{IsRising}
use Rattle.kms_kept.proofs.ApartLaws.{fresh}
use Rattle.kms_kept.proofs.RisingLaws.{one_id}
use Rattle.kms_store.specs.Tally.{rows_in}
use Rattle.kms_store.specs.Tally.{ProjectRows}
use Rattle.kms_store.proofs.CountLaws.{count_left}
use Rattle.kms_store.proofs.TableLaws.{put_last}

-- two tests that agree on each row count alike
same_count : {X : Type 0} (p q : X → Bool) (xs : List X) → AllByRecursion (λ x. p x ≡ q x) xs → length (filter p xs) ≡ length (filter q xs)
same_count p q [] each = refl
same_count p q (x ∷ xs) each = elim (cases_Bool (q x)) [
  | inl t ↦ rw (each.0, t) (ap suc (same_count p q xs each.1))
  | inr f ↦ rw (each.0, f) (same_count p q xs each.1)
]

module _ (project : List ℕ) where
  abbrev pub owns : ContainerRow → Bool
  owns c = bytes_eq project c.project

  -- the consumer's container is the project's
  abbrev pub through : List ContainerRow → ConsumerRow → Bool
  through cs d = has (container_of d.container cs) owns

  through_push : (cs : List ContainerRow) (row : ContainerRow) (d : ConsumerRow) → is_some (container_of d.container cs) ≡ true → through (cs ++ row ∷ []) d ≡ through cs d
  through_push [] row d there = absurd cc
  through_push (x ∷ xs) row d there = elim (cases_Bool (is_id d.container x.id)) [
    | inl t ↦ rw t refl
    | inr f ↦ rw f (through_push xs row d (rw f at there))
  ]

  through_dropped : (id : Id) (cs : List ContainerRow) (d : ConsumerRow) → is_id id d.container ≡ false → through (drop_rows (λ c. is_id id c.id) cs) d ≡ through cs d
  through_dropped id [] d apart = refl
  through_dropped id (x ∷ xs) d apart = elim (cases_Bool (is_id id x.id)) [
    | inl t ↦ rw (t, past x t) (through_dropped id xs d apart)
    | inr f ↦ elim (cases_Bool (is_id d.container x.id)) [
      | inl here ↦ rw (f, here) refl
      | inr other ↦ rw (f, other) (through_dropped id xs d apart)
    ]
  ]
    where
      past : (x : ContainerRow) → is_id id x.id ≡ true → is_id d.container x.id ≡ false
      past x t = ne_eqb x.id.0 d.container.0 (λ e. let same : x.id.0 ≡ id.0 = eqb-true x.id.0 id.0 t in let wrong : is_id id d.container ≡ true = eq-eqb d.container.0 id.0 (sym e ∙ same) in absurd cc)

  through_put : (put old : ContainerRow) (cs : List ContainerRow) (d : ConsumerRow) → container_of put.id cs ≡ Some old → owns put ≡ owns old → through (put_row (λ c. is_id put.id c.id) put cs) d ≡ through cs d
  through_put put old [] d found same = absurd cc
  through_put put old (x ∷ xs) d found same = elim (cases_Bool (is_id put.id x.id)) [
    | inl t ↦
        let is : owns put ≡ owns x = same ∙ ap owns (sym (same_Some x old (rw t at found))) in
        let e : x.id.0 ≡ put.id.0 = eqb-true x.id.0 put.id.0 t in
        elim (cases_Bool (is_id d.container x.id)) [
          | inl here ↦ let there : is_id d.container put.id ≡ true = eq-eqb put.id.0 d.container.0 (sym e ∙ eqb-true x.id.0 d.container.0 here) in rw (t, there, here) is
          | inr other ↦ let there : is_id d.container put.id ≡ false = ne_eqb put.id.0 d.container.0 (λ s. let wrong : is_id d.container x.id ≡ true = eq-eqb x.id.0 d.container.0 (e ∙ s) in absurd cc) in rw (t, there, other) refl
        ]
    | inr f ↦ elim (cases_Bool (is_id d.container x.id)) [
      | inl here ↦ rw (f, here) refl
      | inr other ↦ rw (f, other) (through_put put old xs d (rw f at found) same)
    ]
  ]

  all_of : {P Q : ConsumerRow → Type 0} → ((d : ConsumerRow) → P d → Q d) → (ds : List ConsumerRow) → AllByRecursion P ds → AllByRecursion Q ds
  all_of step [] each = tt
  all_of step (d ∷ ds) each = (step d each.0, all_of step ds each.1)

  -- a container is put, in the place of one of the same project or as a new one
  pub put_through : (put : ContainerRow) (cs : List ContainerRow) (ds : List ConsumerRow) → AllByRecursion (λ (d : ConsumerRow). is_some (container_of d.container cs) ≡ true) ds
      → (found : Option ContainerRow) → container_of put.id cs ≡ found → ((old : ContainerRow) → found ≡ Some old → put.project ≡ old.project)
      → length (filter (through (put_row (λ c. is_id put.id c.id) put cs)) ds) ≡ length (filter (through cs) ds)
  put_through put cs ds there None found same =
      same_count (through (put_row (λ c. is_id put.id c.id) put cs)) (through cs) ds
      (all_of (λ d is. ap (λ (rows : List ContainerRow). through rows d) (put_last (λ c. is_id put.id c.id) put cs found) ∙ through_push cs put d is) ds there)
  put_through put cs ds there (Some old) found same =
      same_count (through (put_row (λ c. is_id put.id c.id) put cs)) (through cs) ds
      (all_of (λ d is. through_put put old cs d found (ap (bytes_eq project) (same old refl))) ds there)

  all_left : (test : ConsumerRow → Bool) (ds : List ConsumerRow) → AllByRecursion (λ (d : ConsumerRow). test d ≡ false) (drop_rows test ds)
  all_left test [] = tt
  all_left test (d ∷ ds) = elim (cases_Bool (test d)) [ inl t ↦ rw t (all_left test ds) | inr f ↦ rw f (f, all_left test ds) ]

  -- a container goes: it changes nothing for consumers of others
  pub gone_through : (id : Id) (cs : List ContainerRow) (ds : List ConsumerRow)
      → length (filter (through (drop_rows (λ c. is_id id c.id) cs)) (drop_rows (λ d. is_id id d.container) ds)) ≡ length (filter (through cs) (drop_rows (λ d. is_id id d.container) ds))
  gone_through id cs ds = same_count _ _ (drop_rows (λ d. is_id id d.container) ds) (all_of (λ d f. through_dropped id cs d f) (drop_rows (λ d. is_id id d.container) ds) (all_left (λ d. is_id id d.container) ds))

  on_it : (id : Id) (cs : List ContainerRow) (found : Option ContainerRow) (d : ConsumerRow) → container_of id cs ≡ found → d.container.0 ≡ id.0 → through cs d ≡ has found owns
  on_it id cs found d is same = ap (λ (i : Id). has (container_of i cs) owns) (one_id d.container id same) ∙ ap (λ (o : Option ContainerRow). has o owns) is

  -- consumers of one container go: as many fewer, if it is the project's
  pub drop_through : (id : Id) (test : ConsumerRow → Bool) (cs : List ContainerRow) (found : Option ContainerRow) → container_of id cs ≡ found → ((d : ConsumerRow) → test d ≡ true → d.container.0 ≡ id.0) → (ds : List ConsumerRow)
      → length (filter (through cs) (drop_rows test ds)) + cond (has found owns) (length (filter test ds)) 0 ≡ length (filter (through cs) ds)
  drop_through id test cs found is on ds = count_left (through cs) test (has found owns) (λ d passed. on_it id cs found d is (on d passed)) ds

-- what passes one test passes another
pub fewer_pass : {X : Type 0} (p q : X → Bool) → ((x : X) → p x ≡ true → q x ≡ true) → (xs : List X) → length (filter p xs) ≤ length (filter q xs)
fewer_pass p q also [] = omega arith
fewer_pass {X} p q also (x ∷ xs) = elim (cases_Bool (p x)) [
  | inl t ↦ rw (t, also x t) (omega (arith, fewer_pass p q also xs))
  | inr f ↦ rw f (either (q x) (fewer_pass p q also xs))
]
  where
    either : (b : Bool) → length (filter p xs) ≤ length (filter q xs) → length (filter p xs) ≤ length (cond b (x ∷ filter q xs) (filter q xs))
    either true le = omega (arith, le)
    either false le = le

pub on_container : (id : Id) (name url : List ℕ) (d : ConsumerRow) → is_consumer id name url d ≡ true → is_id id d.container ≡ true
on_container id name url d is = (and_parts (is_id id d.container) (bytes_eq name d.name) (and_parts (is_id id d.container && bytes_eq name d.name) (bytes_eq url d.url) is).0).0

-- ---- what a project's entry has of consumers

module _ (id : Id) (cs : List ContainerRow) (ds : List ConsumerRow) (entries : List ProjectRows) (each : (p : List ℕ) → rows_in p entries ≡ length (filter (through p cs) ds)) where
  -- at least those of one of its containers
  pub on_one : (row : ContainerRow) (gone : ℕ) → container_of id cs ≡ Some row → gone ≤ length (filter (λ (d : ConsumerRow). is_id id d.container) ds) → gone ≤ rows_in row.project entries
  on_one row gone found le =
      let own : bytes_eq row.project row.project ≡ true = (bytes_eq-Decides row.project row.project).1 refl in
      let all = drop_through row.project id (λ (d : ConsumerRow). is_id id d.container) cs (Some row) found (λ d t. eqb-true d.container.0 id.0 t) ds in
      omega (arith, le, each row.project, (rw own at all))

  -- those of a container that pass a test go
  pub left_through : (test : ConsumerRow → Bool) (gone : ℕ) (new : List ProjectRows) → ((d : ConsumerRow) → test d ≡ true → is_id id d.container ≡ true) → gone ≡ length (filter test ds)
      → ((p : List ℕ) → rows_in p new + cond (has (container_of id cs) (owns p)) gone 0 ≡ rows_in p entries) → (p : List ℕ) → rows_in p new ≡ length (filter (through p cs) (drop_rows test ds))
  left_through test gone new on is rows p =
      let all = drop_through p id test cs (container_of id cs) refl (λ d t. eqb-true d.container.0 id.0 (on d t)) ds in
      omega (arith, each p, all, subst (λ (n : ℕ). rows_in p new + cond (has (container_of id cs) (owns p)) n 0 ≡ rows_in p entries) is (rows p))

-- a container that is put anew is of the same project
pub alike : (part : Part) (row : ContainerRow) (kept : Kept) → IsRising kept.state → container_at kept.state.tag (container_put_of row) ≡ row → applies part (ContainerPut (container_put_of row)) kept ≡ true
    → (old : ContainerRow) → container_of row.id kept.state.containers ≡ Some old → row.project ≡ old.project
alike part row kept rising is fits old found =
    let s = kept.state in
    let put = container_put_of row in
    let named : container_of (id_at s.tag put.id) s.containers ≡ Some old = subst (λ (r : ContainerRow). container_of r.id s.containers ≡ Some old) (sym is) found in
    elim (or_cases (is_new part s (container_ids s) put.id) (has (container_of (id_at s.tag put.id) s.containers) (may_replace_container put)) fits) [
      | inl new ↦ absurd (not_there (id_at s.tag put.id) s.containers (fresh part s (container_ids s) put.id new rising).containers named)
      | inr placed ↦
          let may : may_replace_container put old ≡ true = rw named at placed in
          (bytes_eq-Decides row.project old.project).0 (and_parts (bytes_eq row.project old.project) (bytes_eq row.creator old.creator) (and_parts (bytes_eq row.project old.project && bytes_eq row.creator old.creator) (row.created == old.created) may).0).0
    ]
  where
    not_there : (id : Id) (cs : List ContainerRow) → IsOther (map (λ (c : ContainerRow). c.id) cs) id → container_of id cs ≡ Some old → ⊥
    not_there id [] other there = absurd cc
    not_there id (c ∷ cs) other there = not_there id cs other.1 (rw other.0 at there)
