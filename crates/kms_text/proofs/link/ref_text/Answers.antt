use Rattle.std.specs.Prelude.{IsUtf8}
use Rattle.kms_text.proofs.IdLemmas.{IsUtf8-id_text_of, ok_of}
use Rattle.kms_text.proofs.link.ref_text.Goals as goal

pub unwrap-requires : goal.unwrap-requires
unwrap-requires c =
    let utf8 : IsUtf8 c.id_text-id.result = rw c.id_text-id.ensures (IsUtf8-id_text_of c.args.id) in
    ok_of _ _ c.from_utf8.result c.from_utf8.ensures.cases (λ e q. q.0 utf8)
