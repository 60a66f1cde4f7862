use Rattle.std.proofs.Common.{ℕ, List}
use Rattle.std.specs.Prelude.{Option, Ok}
use Rattle.std.proofs.lemmas.Result.{err_from_is_err_and}
use Rattle.kms_host.specs.History.{History, Tells}
use Rattle.kms_host.proofs.Moments.{tells_then, tells_weaker, known_with_told}
use Rattle.kms_journal.specs.Emptying.{Empties}
use Rattle.kms_journal.specs.Renewal.{Appends}
use Rattle.kms_journal.specs.Spelling.{file_rest}
use Rattle.kms_journal.proofs.RenewalLaws.{empty_fails, IsBegun, begun, begun_end, append_fails, IsFilled, filled, filled_attached, sync_fails, IsSynced, synced, can_set, renewed}
use Rattle.kms_journal.proofs.renewal.renew.Goals as goal

begun_told : {T E : Type 0} {a b : Option History} (file : ℕ) (rest : List ℕ) (x : T) → Tells a b (Empties {T = T} {E = E} file (Ok x)) → Tells a b (IsBegun file rest)
begun_told file rest x told = tells_weaker (IsBegun file rest) told (λ was now e. begun file rest was x now e)

filled_told : {T E U D : Type 0} {a b c : Option History} (file : ℕ) (rest : List ℕ) (x : T) (y : U) → Tells a b (Empties {T = T} {E = E} file (Ok x)) → Tells b c (Appends {T = U} {E = D} file rest (Ok y)) → Tells a c (IsFilled file rest)
filled_told file rest x y first second = tells_then (IsFilled file rest) (begun_told file rest x first) second (λ was mid now b a. filled file rest was y mid now b a)

pub returns-in_err-empty-clause-told : goal.returns-in_err-empty-clause-told
returns-in_err-empty-clause-told g c =
    let rest = file_rest c.args.header.now (g.P.Pieces.left c.args.pieces.now) in
    let r = err_from_is_err_and c.from_residual.result c.from_residual.ensures.1 in
    rw (r.1) (tells_weaker _ c.in_err-empty.ensures.told (λ was now e. empty_fails c.args.header.now.file rest was _ r.0 now e))

pub append_rest-requires-clause-end : goal.append_rest-requires-clause-end
append_rest-requires-clause-end g c =
    let file = c.args.header.now.file in
    let rest = file_rest c.args.header.now (g.P.Pieces.left c.args.pieces.now) in
    known_with_told _ c.requires.attached (begun_told file rest c.in_ok-empty.field-0 c.in_ok-empty.ensures.told) (λ was now a b. begun_end file rest was now a b)

pub returns-in_err-append_rest-clause-told : goal.returns-in_err-append_rest-clause-told
returns-in_err-append_rest-clause-told g c =
    let file = c.args.header.now.file in
    let rest = file_rest c.args.header.now (g.P.Pieces.left c.args.pieces.now) in
    let r = err_from_is_err_and c.from_residual-in_err-append_rest.result c.from_residual-in_err-append_rest.ensures.1 in
    rw (r.1)
    (tells_then _ (begun_told file rest c.in_ok-empty.field-0 c.in_ok-empty.ensures.told) c.in_err-append_rest.ensures.told
    (λ was mid now b a. append_fails file rest was _ r.0 rest mid now b a))

pub sync-requires-clause-attached : goal.sync-requires-clause-attached
sync-requires-clause-attached g c =
    let file = c.args.header.now.file in
    let rest = file_rest c.args.header.now (g.P.Pieces.left c.args.pieces.now) in
    known_with_told _ c.requires.attached (filled_told file rest c.in_ok-empty.field-0 c.in_ok-append_rest.field-0 c.in_ok-empty.ensures.told c.in_ok-append_rest.ensures.told)
    (λ was now a f. filled_attached file rest was now a f)

pub returns-in_err-sync-clause-told : goal.returns-in_err-sync-clause-told
returns-in_err-sync-clause-told g c =
    let file = c.args.header.now.file in
    let rest = file_rest c.args.header.now (g.P.Pieces.left c.args.pieces.now) in
    let r = err_from_is_err_and c.from_residual-in_err-sync.result c.from_residual-in_err-sync.ensures.1 in
    rw (r.1)
    (tells_then _ (filled_told file rest c.in_ok-empty.field-0 c.in_ok-append_rest.field-0 c.in_ok-empty.ensures.told c.in_ok-append_rest.ensures.told) c.in_err-sync.ensures.told
    (λ was mid now f is. sync_fails file rest was r.0 mid now f is))

pub write_through-requires-clause-place : goal.write_through-requires-clause-place
write_through-requires-clause-place g c =
    let file = c.args.header.now.file in
    let rest = file_rest c.args.header.now (g.P.Pieces.left c.args.pieces.now) in
    let three = tells_then (IsSynced file rest) (filled_told file rest c.in_ok-empty.field-0 c.in_ok-append_rest.field-0 c.in_ok-empty.ensures.told c.in_ok-append_rest.ensures.told) c.in_ok-sync.ensures.told
    (λ was mid now f is. synced file rest was mid now f is) in
    known_with_told _ c.requires.attached three (λ was now a s. can_set file rest was now a s)

pub returns-clause-told : goal.returns-clause-told
returns-clause-told g c =
    let file = c.args.header.now.file in
    let rest = file_rest c.args.header.now (g.P.Pieces.left c.args.pieces.now) in
    let three = tells_then (IsSynced file rest) (filled_told file rest c.in_ok-empty.field-0 c.in_ok-append_rest.field-0 c.in_ok-empty.ensures.told c.in_ok-append_rest.ensures.told) c.in_ok-sync.ensures.told
    (λ was mid now f is. synced file rest was mid now f is) in
    tells_then _ three c.write_through.ensures.told (λ was mid now s w. renewed file rest was c.write_through.result mid now s w)
