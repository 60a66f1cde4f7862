-- What the entries of projects say, when a row comes or goes.
use Rattle.std.proofs.Common.{◌≡◌, ℕ, ◌+◌, ◌<◌, ◌≤◌, ◌^◌, ◌-◌, Bool, true, cond, List, [], ◌∷◌, ◌++◌, map, length, Option, Some, None, refl, sym, ap, subst, ◌∙◌, arith}
use Rattle.std.specs.Prelude.{find, filter}
use Rattle.std.specs.Str.{bytes_eq}
use Rattle.std.proofs.lemmas.Slice.Eq.{bytes_eq-Decides}
use Rattle.kms_world.specs.Effect.{change_rows, put_row, drop_rows}
use Rattle.kms_world.specs.Id.{is_id}
use Rattle.kms_world.specs.State.{State}
use Rattle.kms_world.specs.declared.id.Id.{Id}
use Rattle.kms_world.specs.declared.secret.SecretRow.{SecretRow}
use Rattle.kms_store.specs.Counts.{rows_of, Tallies, AreCounted}
use Rattle.kms_store.specs.Table.{Rises}
use Rattle.kms_store.specs.Tally.{rows_in, ProjectsAscend}
use Rattle.kms_store.specs.declared.counts.Counts.{Counts}
use Rattle.kms_store.specs.Tally.{ProjectRows}
use Rattle.kms_store.proofs.CountLaws.{count_push, count_changed, counted_few, count_put_there, count_put_last, count_dropped}
use Rattle.kms_store.proofs.TableLaws.{dropped_nowhere}

abbrev one : Bool → ℕ
one b = cond b 1 0

module _ {X : Type 0} (project_of : X → List ℕ) (rows : List X) (entries : List ProjectRows) (t : Tallies (λ p. rows_of project_of p rows) entries) where
  abbrev mine : List ℕ → X → Bool
  mine p r = bytes_eq p (project_of r)

  -- a project has fewer rows than all that can be counted
  pub tally_few : (project : List ℕ) → length rows < 2 ^ 64 - 1 → rows_in project entries + 1 < 2 ^ 64
  tally_few project lt = let few : length (filter (mine project) rows) ≤ length rows = counted_few (mine project) rows in omega (arith, t.each project, few, lt)

  own : (p project : List ℕ) (row : X) → project_of row ≡ project → ◌≡◌ {A = ℕ} (cond (bytes_eq p project) 1 0) (cond (mine p row) 1 0)
  own p project row is = ap (λ (q : List ℕ). one (bytes_eq p q)) (sym is)

  pub tally_new : (project : List ℕ) (row : X) (new : List ProjectRows) → project_of row ≡ project → ProjectsAscend new → ((p : List ℕ) → rows_in p new ≡ rows_in p entries + cond (bytes_eq p project) 1 0)
      → Tallies (λ p. rows_of project_of p (rows ++ row ∷ [])) new
  tally_new project row new is ascend more = record {
    ascend = ascend;
    each = λ p. omega (arith, more p, t.each p, own p project row is, count_push (mine p) rows row);
  }

  module _ (id_of : X → Id) (id : Id) where
    abbrev test : X → Bool
    test x = is_id id (id_of x)

    pub tally_there : (project : List ℕ) (old : X) → Rises (map id_of rows) → find test rows ≡ Some old → project_of old ≡ project → 1 ≤ rows_in project entries
    tally_there project old r found is =
        let here : bytes_eq project (project_of old) ≡ true = (bytes_eq-Decides project (project_of old)).1 (sym is) in
        let counts : one (mine project old) ≡ 1 = ap one here in
        omega (arith, counts, t.each project, count_dropped (mine project) id_of id old rows r found)

    pub tally_drop : (project : List ℕ) (old : X) (new : List ProjectRows) → Rises (map id_of rows) → find test rows ≡ Some old → project_of old ≡ project → ProjectsAscend new
        → ((p : List ℕ) → rows_in p new + cond (bytes_eq p project) 1 0 ≡ rows_in p entries) → Tallies (λ p. rows_of project_of p (drop_rows test rows)) new
    tally_drop project old new r found is ascend fewer = record {
      ascend = ascend;
      each = λ p. omega (arith, fewer p, t.each p, own p project old is, count_dropped (mine p) id_of id old rows r found);
    }

    pub tally_none : find test rows ≡ None → Tallies (λ p. rows_of project_of p (drop_rows test rows)) entries
    tally_none none = subst (λ (rest : List X). Tallies (λ p. rows_of project_of p rest) entries) (sym (dropped_nowhere test rows none)) t

-- a row of this id is put, after the one with its id went
module _ {X : Type 0} (project_of : X → List ℕ) (id_of : X → Id) (id : Id) (rows : List X) (entries : List ProjectRows) where
  abbrev rest : List X
  rest = drop_rows (λ x. is_id id (id_of x)) rows

  put_counts : (p : List ℕ) (row : X) → Rises (map id_of rows) → (found : Option X) → find (λ x. is_id id (id_of x)) rows ≡ found
      → rows_of project_of p (put_row (λ x. is_id id (id_of x)) row rows) ≡ rows_of project_of p rest + cond (bytes_eq p (project_of row)) 1 0
  put_counts p row r None found =
      let same : rows_of project_of p rest ≡ rows_of project_of p rows = ap (λ (xs : List X). rows_of project_of p xs) (dropped_nowhere (λ x. is_id id (id_of x)) rows found) in
      omega (arith, same, count_put_last (λ x. bytes_eq p (project_of x)) (λ x. is_id id (id_of x)) row rows found)
  put_counts p row r (Some old) found =
      omega (arith, count_put_there (λ x. bytes_eq p (project_of x)) (λ x. is_id id (id_of x)) row old rows found, count_dropped (λ x. bytes_eq p (project_of x)) id_of id old rows r found)

  pub tally_put : Tallies (λ p. rows_of project_of p rest) entries → (project : List ℕ) (row : X) (new : List ProjectRows) → Rises (map id_of rows) → id_of row ≡ id → project_of row ≡ project → ProjectsAscend new
      → ((p : List ℕ) → rows_in p new ≡ rows_in p entries + cond (bytes_eq p project) 1 0) → Tallies (λ p. rows_of project_of p (put_row (λ x. is_id (id_of row) (id_of x)) row rows)) new
  tally_put t project row new r same is ascend more = record {
    ascend = ascend;
    each = λ p.
        let named : rows_of project_of p (put_row (λ x. is_id (id_of row) (id_of x)) row rows) ≡ rows_of project_of p (put_row (λ x. is_id id (id_of x)) row rows) = ap (λ (i : Id). rows_of project_of p (put_row (λ x. is_id i (id_of x)) row rows)) same in
        let own : one (bytes_eq p project) ≡ one (bytes_eq p (project_of row)) = ap (λ (q : List ℕ). one (bytes_eq p q)) (sym is) in
        omega (arith, named, own, more p, t.each p, put_counts p row r (find (λ x. is_id id (id_of x)) rows) refl);
  }

  length_dropped : {Y : Type 0} (test : Y → Bool) (xs : List Y) → length (drop_rows test xs) ≤ length xs
  length_dropped test xs = counted_few _ xs

  -- there are fewer rows than can be counted
  pub rest_few : Tallies (λ p. rows_of project_of p rest) entries → (project : List ℕ) → length rows < 2 ^ 64 - 1 → rows_in project entries + 1 < 2 ^ 64
  rest_few t project lt = tally_few project_of rest entries t project (omega (arith, lt, length_dropped (λ x. is_id id (id_of x)) rows))

-- secrets change, but not their projects
pub secrets_changed : (c : Counts) (s : State) (test : SecretRow → Bool) (g : SecretRow → SecretRow) → ((row : SecretRow) → (g row).project ≡ row.project) → AreCounted c s → AreCounted c (record s { secrets = change_rows test g s.secrets })
secrets_changed c s test g same counted = record {
  secrets = record {
    ascend = counted.secrets.ascend;
    each = λ p. counted.secrets.each p ∙ sym (count_changed (λ (r : SecretRow). bytes_eq p r.project) test g (λ row. ap (bytes_eq p) (same row)) s.secrets);
  };
  containers = counted.containers;
  orders = counted.orders;
  consumers = counted.consumers;
}
