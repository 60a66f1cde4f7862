-- The store that `init --store s` made is the one that the next run may serve.
use Rattle.std.proofs.Common.{◌≡◌, ℕ, List, [], ◌∷◌, Bool, true, false, Option, Some, None, cond, refl, subst}
use Rattle.std.specs.Prelude.{codes}
use Rattle.kms_host.specs.History.{History, WhereTold}
use Rattle.kms_host.specs.Line.{IsOpen}
use Rattle.kms_host.specs.Store.{is_attached}
use Rattle.kms_host.proofs.Moments.{known_both, known_with}
use Rattle.kms_host.proofs.StoreLaws.{only_attached-none}
use Rattle.kms_serve.specs.Init.{CanBeServed}
use Rattle.kms_serve.specs.Plan.{pipe_plan}
use Rattle.kms_serve.specs.Theorem.{RunPromise}
use Rattle.kms_serve.specs.Words.{is_pipe, init_of, pipe_of, store_of, named_store}
use Rattle.kms_serve.specs.declared.status.Status.{Status}
use Rattle.kms_serve.proofs.NextLaws.{served_next}

pub makes : (a b c : List ℕ) → a ≡ codes "init" → b ≡ codes "--store" → c ≡ codes "s" → init_of (a ∷ b ∷ c ∷ []) ≡ Some (codes "s")
makes a b c first second third = rw (first, second, third) refl

named_by : (t : Bool) (store c e g : List ℕ) → store_of (cond t (Some (pipe_plan c e g)) None) ≡ Some store → c ≡ store
named_by true store c e g is = cc
named_by false store c e g is = cc

pub named : (a b c d e f g store : List ℕ) → c ≡ codes "s" → named_store (a ∷ b ∷ c ∷ d ∷ e ∷ f ∷ g ∷ []) ≡ Some store → codes "s" ≡ store
named a b c d e f g store third is = subst (λ (x : List ℕ). x ≡ store) third (named_by (is_pipe a b c d e f g) store c e g is)

pub made : {before after : Option History} (words : List (List ℕ)) (store : List ℕ) (s : Status) → init_of words ≡ Some store
    → WhereTold before (λ h. is_attached h.calls ≡ false) → WhereTold before (IsOpen 0) → RunPromise (init_of words) (pipe_of words) before after s → WhereTold after (CanBeServed store)
made {before} {after} words store s create none unshut promise =
    let k = subst (λ (o : Option (List ℕ)). RunPromise o (pipe_of words) before after s) create promise in
    known_with (CanBeServed store) (known_both none unshut) k.1
    (λ was calls can inits. served_next store s was calls inits (record { named = only_attached-none store was.calls can.0; unshut = can.1 }))
