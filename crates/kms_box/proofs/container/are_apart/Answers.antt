use Rattle.std.proofs.Common.{◌≡◌, ◌++◌, ◌∷◌, ◌+◌, [], true, false, map, take, drop, ℕ, List, Option, sym, ap, ◌∙◌, arith}
use Rattle.std.specs.BTreeSet.{contains}
use Rattle.std.specs.Ordering.{nat_cmp}
use Rattle.std.proofs.lemmas.Bool.{not-true, not-false}
use Rattle.std.proofs.lemmas.List.{map_more}
use Rattle.kms_world.specs.declared.id.Id.{Id}
use Rattle.kms_box.specs.Container.{are_apart}
use Rattle.kms_box.proofs.ApartLaws.{is_among, clash, apart-push, among_more, whole}
use Rattle.kms_box.proofs.container.are_apart.Goals as goal

number : Option (List ℕ) × Id → ℕ
number member = member.1.0

pub returns-then-not-branch : goal.returns-then-not-branch
unfolding number
returns-then-not-branch c =
    let i = c.loop-member.member-index in
    let members = c.args.members.now in
    let front = map number (take i members) in
    let there : contains nat_cmp c.loop-member.seen (number c.member-item.result) ≡ true =
    not-false (contains nat_cmp c.loop-member.seen (number c.member-item.result)) (sym c.in_ok-insert.ensures.added ∙ c.if-not-branch.true) in
    let among : is_among (number c.member-item.result) front ≡ true = sym (c.loop-member.invariant.seen (number c.member-item.result)) ∙ there in
    sym (ap are_apart (whole number members i c.member-item.result (omega arith) c.member-item.is)
    ∙ clash (number c.member-item.result) front (map number (drop (i + 1) members)) among)

pub loop-member-preserved : goal.loop-member-preserved
unfolding number
loop-member-preserved c =
    let i = c.loop-member.member-index in
    let members = c.args.members.now in
    let front = map number (take i members) in
    let x = number c.member-item.result in
    let more : map number (take (i + 1) members) ≡ front ++ x ∷ [] =
    map_more number members i c.member-item.result (omega arith)
    ∙ ap (λ (m : Option (List ℕ) × Id). map number (take i members) ++ number m ∷ []) (sym c.member-item.is) in
    let absent : contains nat_cmp c.loop-member.seen x ≡ false =
    not-true (contains nat_cmp c.loop-member.seen x) (sym c.in_ok-insert.ensures.added ∙ c.if-not-branch.false) in
    let new : is_among x front ≡ false = sym (c.loop-member.invariant.seen x) ∙ absent in
    record {
      seen = λ q. among_more c.loop-member.seen c.insert.new.self x front c.loop-member.invariant.seen c.in_ok-insert.ensures.updates q
          ∙ ap (is_among q) (sym more);
      apart = ap are_apart more ∙ apart-push x front new c.loop-member.invariant.apart;
    }
