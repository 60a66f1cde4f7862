use Rattle.std.proofs.Common.{◌≡◌, ◌+◌, ℕ, List, [], ◌∷◌, ◌++◌, ap, subst, arith, length-append}
use Rattle.std.specs.Prelude.{Option, Ok}
use Rattle.std.proofs.lemmas.Result.{err_from_is_err_and}
use Rattle.kms_host.specs.History.{History, Tells}
use Rattle.kms_host.proofs.Moments.{tells_then, tells_weaker, known_with_told}
use Rattle.kms_journal.specs.Renewal.{IsEnd, Appends}
use Rattle.kms_journal.specs.Spelling.{header_rest}
use Rattle.kms_journal.specs.declared.fault.StoreFault.{StoreFault}
use Rattle.kms_journal.specs.declared.header.Header.{Header}
use Rattle.kms_journal.proofs.GrowingLaws.{grown_then, appended_then, appended_end}
use Rattle.kms_journal.proofs.SpellingLaws.{header_size}
use Rattle.kms_journal.proofs.renewal.append_rest.Goals as goal

-- the header is written
headed_told : {E : Type 0} {a b : Option History} (file : ℕ) (header : Header) (piece : List ℕ) (x : Unit {0}) → piece ≡ header_rest header → Tells a b (Appends {T = Unit {0}} {E = E} file piece (Ok x)) → Tells a b (Appends {T = Unit {0}} {E = E} file (header_rest header) (Ok tt))
headed_told {E = E} file header piece x is told = tells_weaker _ told (λ was now a. subst (λ (l : List ℕ). Appends {T = Unit {0}} {E = E} file l (Ok tt) was now) is a)

pub append_pieces-requires-clause-end : goal.append_pieces-requires-clause-end
append_pieces-requires-clause-end g c =
    let header = c.args.header.now in
    known_with_told _ c.requires.end (headed_told header.file header c.spelled.result c.in_ok-append.field-0 c.spelled.ensures c.in_ok-append.ensures.told)
    (λ was now here a. subst (λ (k : ℕ). IsEnd header.file k now) (ap (λ (n : ℕ). 1 + n) (header_size header)) (appended_end header.file 1 (header_rest header) tt was now here a))

pub returns-in_err-append_pieces-clause-told : goal.returns-in_err-append_pieces-clause-told
returns-in_err-append_pieces-clause-told g c =
    let r = err_from_is_err_and c.from_residual-in_err-append_pieces.result c.from_residual-in_err-append_pieces.ensures.1 in
    rw (r.1)
    (tells_then _ c.in_ok-append.ensures.told c.in_err-append_pieces.ensures.told
    (λ was mid now a b. record { throughout = grown_then c.args.header.now.file was mid now a.throughout b.throughout; done = tt }))

pub append-requires-2-clause-end : goal.append-requires-2-clause-end
append-requires-2-clause-end g c =
    let header = c.args.header.now in
    let left = g.P.Pieces.left c.args.pieces.now in
    let both = tells_then (Appends {T = Unit {0}} {E = StoreFault} header.file (header_rest header ++ left) (Ok tt))
    (headed_told header.file header c.spelled.result c.in_ok-append.field-0 c.spelled.ensures c.in_ok-append.ensures.told) c.in_ok-append_pieces.ensures.told
    (λ was mid now a b. appended_then header.file (header_rest header) left tt (Ok tt) was mid now a b) in
    known_with_told _ c.requires.end both
    (λ was now here a.
    subst (λ (k : ℕ). IsEnd header.file k now) (omega (arith, header_size header, length-append (header_rest header) left, c.requires.size))
    (appended_end header.file 1 (header_rest header ++ left) tt was now here a))

pub returns-clause-told : goal.returns-clause-told
returns-clause-told g c =
    let header = c.args.header.now in
    let left = g.P.Pieces.left c.args.pieces.now in
    let both = tells_then (Appends {T = Unit {0}} {E = StoreFault} header.file (header_rest header ++ left) (Ok tt))
    (headed_told header.file header c.spelled.result c.in_ok-append.field-0 c.spelled.ensures c.in_ok-append.ensures.told) c.in_ok-append_pieces.ensures.told
    (λ was mid now a b. appended_then header.file (header_rest header) left tt (Ok tt) was mid now a b) in
    tells_then _ both c.append-2.ensures.told
    (λ was mid now a b. appended_then header.file (header_rest header ++ left) (0 ∷ []) tt c.append-2.result was mid now a b)
