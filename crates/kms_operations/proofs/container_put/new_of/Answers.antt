use Rattle.std.proofs.Common.{◌≡◌, ◌<◌, ◌^◌, map, ap, ◌∙◌, arith}
use Rattle.std.proofs.lemmas.Bool.{ltb-true}
use Rattle.kms_record.specs.Base.{member_of}
use Rattle.kms_record.specs.ChangeEffect.{row_member}
use Rattle.kms_operations.proofs.ContainerLaws.{members_back, members_fit, new_container_fits}
use Rattle.kms_operations.proofs.container_put.new_of.Goals as goal

pub returns-clause-row : goal.returns-clause-row
returns-clause-row c =
    let kept = c.args.rows.now.kept in
    let tag = kept.state.tag in
    let back : map (row_member tag) c.in_ok-members.members ≡ c.args.new.secrets =
    ap (map (row_member tag)) (c.in_ok-members.ensures ∙ ap (map member_of) c.as_slice.ensures) ∙ members_back kept c.see.ensures c.args.caller.now c.args.moment c.args.new.secrets c.requires.usable in
    cc (c.ids.ensures.ids, back)

pub returns-clause-fits : goal.returns-clause-fits
returns-clause-fits c =
    let kept = c.args.rows.now.kept in
    let lt : kept.state.ids < 2 ^ 62 = ltb-true kept.state.ids (2 ^ 62) c.requires.left in
    new_container_fits kept _ (record {
      id = omega (arith, c.ids.ensures.ids, lt);
      project = c.names_fit.ensures.project;
      creator = c.names_fit.ensures.user;
      created = c.requires.time;
      updated = c.requires.time;
      name = c.requires.range.name;
      members = members_fit c.args.new.secrets c.in_ok-members.members (c.in_ok-members.ensures ∙ ap (map member_of) c.as_slice.ensures) c.requires.range.few c.requires.range.each;
    }) c.ids.ensures.ids
