use Rattle.std.proofs.Common.{◌≡◌, ℕ, ◌-◌, List, true, false, arith, sym, ◌∙◌, ap, refl}
use Rattle.std.specs.List.{list_all}
use Rattle.kms_record.specs.declared.read_error.ReadError.TheVariants as errors
use Rattle.std.specs.Prelude.{not}
use Rattle.std.specs.Str.{bytes_eq}
use Rattle.kms_record.specs.AclReading.{are_apart}
use Rattle.kms_record.specs.Reading.{many, passing, name_at}
use Rattle.kms_record.proofs.PairwiseLaws.{tested_begins, tested_goes_on, tested_ends, tested_refuses, tested_is_done}
use Rattle.std.proofs.lemmas.Result.{err_from_is_err_and}
use Rattle.kms_record.proofs.AclLaws.{not_among}
use Rattle.kms_record.proofs.acl.read_apart.Goals as goal

pub loop-init : goal.loop-init
loop-init c =
    let e : c.args.count - 0 ≡ c.args.count = omega arith in
    rw (e, c.new-users.ensures) (record { passes = refl; so_far = tested_begins (λ (a b : List ℕ). not (bytes_eq a b)) (many name_at c.args.count c.args.cursor.now) })

pub returns-in_err-user : goal.returns-in_err-user
returns-in_err-user c =
    let p = err_from_is_err_and c.from_residual.result c.from_residual.ensures.1 in
    rw (p.1, p.2) (tested_ends (λ (a b : List ℕ). not (bytes_eq a b)) name_at errors.Malformed c.loop.users c.args.count c.loop.counter c.loop.cursor (passing are_apart (many name_at c.args.count) c.args.cursor.now) c.loop-test.true c.in_err-user.ensures c.loop.invariant)

pub returns-then-not-are_others : goal.returns-then-not-are_others
returns-then-not-are_others c =
    let fails : list_all (λ (u : List ℕ). not (bytes_eq u c.in_ok-user.user)) c.loop.users ≡ false = ap (list_all (λ (u : List ℕ). not (bytes_eq u c.in_ok-user.user))) (sym c.as_slice.ensures.names) ∙ sym c.are_others.ensures ∙ c.if-not-are_others.true in
    tested_refuses (λ (a b : List ℕ). not (bytes_eq a b)) name_at c.loop.users c.args.count c.loop.counter c.loop.cursor c.in_ok-user.user c.name.new.cursor (passing are_apart (many name_at c.args.count) c.args.cursor.now) c.loop-test.true c.in_ok-user.ensures fails c.loop.invariant

pub push-requires : goal.push-requires
push-requires c =
    not_among c.loop.users c.in_ok-user.user (ap (list_all (λ (u : List ℕ). not (bytes_eq u c.in_ok-user.user))) (sym c.as_slice.ensures.names) ∙ sym c.are_others.ensures ∙ c.if-not-are_others.false)

pub loop-preserved : goal.loop-preserved
loop-preserved c =
    let all : list_all (λ (u : List ℕ). not (bytes_eq u c.in_ok-user.user)) c.loop.users ≡ true = ap (list_all (λ (u : List ℕ). not (bytes_eq u c.in_ok-user.user))) (sym c.as_slice.ensures.names) ∙ sym c.are_others.ensures ∙ c.if-not-are_others.false in
    rw c.in_ok-push.ensures.ok (tested_goes_on (λ (a b : List ℕ). not (bytes_eq a b)) name_at c.loop.users c.args.count c.loop.counter c.loop.cursor c.in_ok-user.user c.name.new.cursor (passing are_apart (many name_at c.args.count) c.args.cursor.now) c.loop-test.true c.in_ok-user.ensures all c.loop.invariant)

pub returns : goal.returns
returns c = tested_is_done (λ (a b : List ℕ). not (bytes_eq a b)) name_at c.loop.users c.args.count c.loop.counter c.loop.cursor (passing are_apart (many name_at c.args.count) c.args.cursor.now) c.loop-test.false c.loop.invariant
