use Rattle.std.proofs.Common.{◌≡◌, suc, ◌+◌, ◌-◌, ◌*◌, ◌<◌, min, get_or, length, ap, ◌∙◌, arith, take}
use Rattle.kms_http.specs.Framing as spec
use Rattle.kms_http.proofs.FramingLaws.{number-more, number-capped}
use Rattle.kms_http.proofs.framing.number.Goals as goal

pub loop-b-preserved : goal.loop-b-preserved
loop-b-preserved c =
    let digits = c.args.digits.now in
    let i = c.loop-b.b-index in
    let below : i < length digits = omega arith in
    let next : i + 1 ≡ suc i = omega arith in
    let more : spec.number 0 (take (i + 1) digits) ≡ spec.number 0 (take i digits) * 10 + (get_or digits i 0 - 48) =
    ap (λ n. spec.number 0 (take n digits)) next ∙ number-more 0 digits i below in
    let inv = c.loop-b.invariant in
    let sub = c.saturating_sub.ensures in
    let least = c.min-value.ensures in
    rw (more, ← number-capped (spec.number 0 (take i digits)) (get_or digits i 0 - 48), ← inv) (least ∙ ap (λ d. min (c.loop-b.value * 10 + d) 65537) sub)
