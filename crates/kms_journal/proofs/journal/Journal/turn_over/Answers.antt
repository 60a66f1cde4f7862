use Rattle.std.proofs.Common.{◌≡◌, ◌∙◌, ◌<◌, ◌+◌, ◌-◌, ℕ, List, length, ap, subst, arith, false}
use Rattle.std.specs.Prelude.{Result, None}
use Rattle.std.proofs.lemmas.Result.{err_from_is_err_and}
use Rattle.kms_host.specs.History.{History}
use Rattle.kms_host.proofs.Moments.{tells_weaker}
use Rattle.kms_journal.specs.Pieces.{Snapshot}
use Rattle.kms_journal.specs.Position.{Position, position_at}
use Rattle.kms_journal.specs.Renewal.{Renews}
use Rattle.kms_journal.specs.Spelling.{file_rest}
use Rattle.kms_journal.specs.declared.header.Header.{Header}
use Rattle.kms_journal.proofs.CheckpointLaws.{next_header, checkpoint_fails, checkpoint_done}
use Rattle.kms_journal.proofs.journal.Journal.turn_over.Goals as goal

-- the header that the code makes
header_is : (q p : Position) (snapshot : Snapshot) (ids steps size : ℕ) → q ≡ p → ids ≡ snapshot.ids → steps ≡ snapshot.steps → size ≡ length snapshot.bytes
    → (let h : Header = record { file = 1 - q.file; generation = q.generation + 1; tag = q.tag; ids = ids; steps = steps; snapshot = size } in h) ≡ next_header p snapshot
header_is q p snapshot ids steps size view a b d =
    ap (λ (x : Position). let h : Header = record { file = 1 - x.file; generation = x.generation + 1; tag = x.tag; ids = ids; steps = steps; snapshot = size } in h) view
    ∙ ap (λ (n : ℕ). let h : Header = record { file = 1 - p.file; generation = p.generation + 1; tag = p.tag; ids = n; steps = steps; snapshot = size } in h) a
    ∙ ap (λ (n : ℕ). let h : Header = record { file = 1 - p.file; generation = p.generation + 1; tag = p.tag; ids = snapshot.ids; steps = n; snapshot = size } in h) b
    ∙ ap (λ (n : ℕ). let h : Header = record { file = 1 - p.file; generation = p.generation + 1; tag = p.tag; ids = snapshot.ids; steps = snapshot.steps; snapshot = n } in h) d

same_renewal : {T E : Type 0} (h k : Header) (left bytes : List ℕ) (result : Result T E) (was now : History) → h ≡ k → left ≡ bytes → Renews h.file (file_rest h left) result was now → Renews k.file (file_rest k bytes) result was now
same_renewal h k left bytes result was now e f r =
    subst (λ (l : List ℕ). Renews k.file (file_rest k l) result was now) f (subst (λ (x : Header). Renews x.file (file_rest x left) result was now) e r)

pub returns-in_err-renew-clause-told : goal.returns-in_err-renew-clause-told
returns-in_err-renew-clause-told g c =
    let p = c.args.self.now in
    let snapshot = g.P.Pieces.snapshot c.args.pieces.now in
    let lt : p.file < 2 = subst (λ (n : ℕ). n < 2) (ap (λ (q : Position). q.file) c.self.view_is) c.self.invariant.0 in
    let is = header_is _ p snapshot _ _ _ c.self.view_is c.ids.ensures c.steps.ensures c.total.ensures in
    let r = err_from_is_err_and c.from_residual.result c.from_residual.ensures.1 in
    rw (r.1)
    (tells_weaker _ c.in_err-renew.ensures.told
    (λ was now w s placed.
    checkpoint_fails p snapshot was s lt placed c.requires.generation c.requires.ids (omega (arith, c.steps.ensures, c.steps.type_inv)) (omega (arith, c.total.ensures, c.total.type_inv)) _ _ r.0 now
    (same_renewal _ _ _ _ _ was now is c.requires.whole w)))

pub returns-clause-told : goal.returns-clause-told
returns-clause-told g c =
    let p = c.args.self.now in
    let snapshot = g.P.Pieces.snapshot c.args.pieces.now in
    let lt : p.file < 2 = subst (λ (n : ℕ). n < 2) (ap (λ (q : Position). q.file) c.self.view_is) c.self.invariant.0 in
    let is = header_is _ p snapshot _ _ _ c.self.view_is c.ids.ensures c.steps.ensures c.total.ensures in
    tells_weaker _ c.in_ok-renew.ensures.told
    (λ was now w s placed.
    checkpoint_done p snapshot was s lt placed c.requires.generation c.requires.ids (omega (arith, c.steps.ensures, c.steps.type_inv)) (omega (arith, c.total.ensures, c.total.type_inv)) _ _ _ now (ap (λ (h : Header). position_at h (50 + h.snapshot) false None) is)
    (same_renewal _ _ _ _ _ was now is c.requires.whole w))
