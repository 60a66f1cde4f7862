-- A part stays one.
use Rattle.std.proofs.Common.{◌≡◌, ℕ, ◌<◌, List, [], ◌++◌, length, sym, ap, ◌∙◌, arith, append_assoc, length-append}
use Rattle.std.proofs.lemmas.List.{append-nil}
use Rattle.kms_http.specs.MessageFound.{IsWaiting}
use Rattle.kms_http.specs.Messages.{front}
use Rattle.kms_http.specs.Messages.Front.{Part}

pub waits-append : (wanted : ℕ) (bytes piece : List ℕ) → IsWaiting wanted bytes → IsWaiting wanted (bytes ++ piece)
waits-append wanted bytes piece waits = λ more few.
    ap front (append_assoc bytes piece more) ∙ waits (piece ++ more) (omega (arith, length-append bytes piece, length-append piece more))

pub waits-none : (bytes : List ℕ) → IsWaiting 0 bytes
waits-none bytes = λ more few. absurd (omega arith)

pub waits-now : (wanted : ℕ) (bytes : List ℕ) → IsWaiting wanted bytes → length bytes < wanted → front bytes ≡ Part
waits-now wanted bytes waits few = ap front (sym (append-nil bytes)) ∙ waits [] (omega arith)
