-- A run of the plain key manager goes on by more events.
use Rattle.std.proofs.Common.{List, [], ap, append_assoc, arith, cond, drop, length, length-append, nat_eq, refl, subst, suc, sym, take, zero, ℕ, ◌++◌, ◌+◌, ◌<◌, ◌∙◌, ◌∷◌, ◌≡◌, ◌≤◌}
use Rattle.std.proofs.lemmas.List.{append-nil}
use Rattle.kms_model.specs.Course.{Course, Mark, course_at, outcome_at, steps_if, stores_at}
use Rattle.kms_serve.specs.Events.{LineEvent, requests, requests_on}
use Rattle.kms_serve.specs.Replies.{course_by, replies, reply_to, steps_by}

pub course_by-more : (c : Course) (es : List LineEvent) (ms : List Mark) (e : LineEvent) (m : Mark) → length es ≡ length ms
    → course_by c (es ++ e ∷ []) (ms ++ m ∷ []) ≡ course_at (course_by c es ms) e.event m
course_by-more c [] [] e m h = refl
course_by-more c [] (n ∷ ms) e m h = absurd (omega arith)
course_by-more c (d ∷ es) [] e m h = absurd (omega arith)
course_by-more c (d ∷ es) (n ∷ ms) e m h = course_by-more (course_at c d.event n) es ms e m (omega arith)

-- the reply to one event more, as a line sees it
abbrev pub on_event : ℕ → LineEvent → List ℕ → List ℕ
on_event line e reply = cond (nat_eq e.line line) reply []

pub replies-more : (line : ℕ) (endpoint : List ℕ) (c : Course) (es : List LineEvent) (ms : List Mark) (e : LineEvent) (m : Mark) → length es ≡ length ms
    → replies line endpoint c (es ++ e ∷ []) (ms ++ m ∷ [])
    ≡ replies line endpoint c es ms ++ on_event line e (reply_to endpoint e (outcome_at (course_by c es ms) e.event m))
replies-more line endpoint c [] [] e m h = append-nil _
replies-more line endpoint c [] (n ∷ ms) e m h = absurd (omega arith)
replies-more line endpoint c (d ∷ es) [] e m h = absurd (omega arith)
replies-more line endpoint c (d ∷ es) (n ∷ ms) e m h =
    let before : List ℕ = on_event line d (reply_to endpoint d (outcome_at c d.event n)) in
    ap (λ x. before ++ x) (replies-more line endpoint (course_at c d.event n) es ms e m (omega arith))
    ∙ sym (append_assoc before (replies line endpoint (course_at c d.event n) es ms) _)

-- marks of later events change no reply
pub replies-marks : (line : ℕ) (endpoint : List ℕ) (c : Course) (es : List LineEvent) (ms more : List Mark) → length es ≤ length ms
    → replies line endpoint c es (ms ++ more) ≡ replies line endpoint c es ms
replies-marks line endpoint c [] ms more h = refl
replies-marks line endpoint c (d ∷ es) [] more h = absurd (omega arith)
replies-marks line endpoint c (d ∷ es) (n ∷ ms) more h =
    ap (λ x. on_event line d (reply_to endpoint d (outcome_at c d.event n)) ++ x) (replies-marks line endpoint (course_at c d.event n) es ms more (omega arith))

pub course_by-marks : (c : Course) (es : List LineEvent) (ms more : List Mark) → length es ≤ length ms → course_by c es (ms ++ more) ≡ course_by c es ms
course_by-marks c [] ms more h = refl
course_by-marks c (d ∷ es) [] more h = absurd (omega arith)
course_by-marks c (d ∷ es) (n ∷ ms) more h = course_by-marks (course_at c d.event n) es ms more (omega arith)

pub steps_by-marks : (c : Course) (es : List LineEvent) (ms more : List Mark) → length es ≤ length ms → steps_by c es (ms ++ more) ≡ steps_by c es ms
steps_by-marks c [] ms more h = refl
steps_by-marks c (d ∷ es) [] more h = absurd (omega arith)
steps_by-marks c (d ∷ es) (n ∷ ms) more h = ap (λ k. steps_if (stores_at c d.event n) + k) (steps_by-marks (course_at c d.event n) es ms more (omega arith))

pub steps_by-more : (c : Course) (es : List LineEvent) (ms : List Mark) (e : LineEvent) (m : Mark) → length es ≡ length ms
    → steps_by c (es ++ e ∷ []) (ms ++ m ∷ []) ≡ steps_by c es ms + steps_if (stores_at (course_by c es ms) e.event m)
steps_by-more c [] [] e m h = omega arith
steps_by-more c [] (n ∷ ms) e m h = absurd (omega arith)
steps_by-more c (d ∷ es) [] e m h = absurd (omega arith)
steps_by-more c (d ∷ es) (n ∷ ms) e m h = omega (arith, steps_by-more (course_at c d.event n) es ms e m (omega arith))

-- the first events make no more steps than all
pub steps-front : (c : Course) (es : List LineEvent) (ms : List Mark) (k : ℕ) → steps_by c (take k es) ms ≤ steps_by c es ms
steps-front c es ms zero = omega arith
steps-front c [] ms (suc k) = omega arith
steps-front c (d ∷ es) [] (suc k) = omega arith
steps-front c (d ∷ es) (n ∷ ms) (suc k) = omega (arith, steps-front (course_at c d.event n) es ms k)

-- Where more was sent than the replies to the first k events, and no more than those to the first events, one event more than
-- these k makes no more steps than these events, whatever comes behind them.
pub steps-begun : (line : ℕ) (endpoint : List ℕ) (c : Course) (es later : List LineEvent) (ms : List Mark) (k : ℕ) → length es ≤ length ms
    → length (replies line endpoint c (take k (es ++ later)) ms) < length (replies line endpoint c es ms)
    → steps_by c (take (k + 1) (es ++ later)) ms ≤ steps_by c es ms
steps-begun line endpoint c [] later ms k h begun = absurd (omega (arith, begun))
steps-begun line endpoint c (d ∷ es) later [] k h begun = absurd (omega arith)
steps-begun line endpoint c (d ∷ es) later (n ∷ ms) zero h begun = omega arith
steps-begun line endpoint c (d ∷ es) later (n ∷ ms) (suc k) h begun =
    let next : Course = course_at c d.event n in
    let here : List ℕ = on_event line d (reply_to endpoint d (outcome_at c d.event n)) in
    let fewer = length-append here (replies line endpoint next (take k (es ++ later)) ms) in
    let all = length-append here (replies line endpoint next es ms) in
    let rest = steps-begun line endpoint next es later ms k (omega arith) (omega (arith, begun, fewer, all)) in
    let goal : steps_if (stores_at c d.event n) + steps_by next (take (k + 1) (es ++ later)) ms ≤ steps_if (stores_at c d.event n) + steps_by next es ms = omega (arith, rest) in
    let one_more : suc k + 1 ≡ suc (k + 1) = omega arith in
    subst (λ j. steps_by c (take j (d ∷ (es ++ later))) (n ∷ ms) ≤ steps_by c (d ∷ es) (n ∷ ms)) (sym one_more) goal

pub replies-append : (line : ℕ) (endpoint : List ℕ) (c : Course) (es fs : List LineEvent) (ms ns : List Mark) → length es ≡ length ms
    → replies line endpoint c (es ++ fs) (ms ++ ns) ≡ replies line endpoint c es ms ++ replies line endpoint (course_by c es ms) fs ns
replies-append line endpoint c [] fs [] ns h = refl
replies-append line endpoint c [] fs (n ∷ ms) ns h = absurd (omega arith)
replies-append line endpoint c (d ∷ es) fs [] ns h = absurd (omega arith)
replies-append line endpoint c (d ∷ es) fs (n ∷ ms) ns h =
    let here : List ℕ = on_event line d (reply_to endpoint d (outcome_at c d.event n)) in
    ap (λ x. here ++ x) (replies-append line endpoint (course_at c d.event n) es fs ms ns (omega arith))
    ∙ sym (append_assoc here (replies line endpoint (course_at c d.event n) es ms) _)

pub replies-cut : (line : ℕ) (endpoint : List ℕ) (c : Course) (es fs : List LineEvent) (ms : List Mark) → length es ≤ length ms
    → replies line endpoint c (es ++ fs) ms ≡ replies line endpoint c es ms ++ replies line endpoint (course_by c es ms) fs (drop (length es) ms)
replies-cut line endpoint c [] fs ms h = refl
replies-cut line endpoint c (d ∷ es) fs [] h = absurd (omega arith)
replies-cut line endpoint c (d ∷ es) fs (n ∷ ms) h =
    let here : List ℕ = on_event line d (reply_to endpoint d (outcome_at c d.event n)) in
    ap (λ x. here ++ x) (replies-cut line endpoint (course_at c d.event n) es fs ms (omega arith))
    ∙ sym (append_assoc here (replies line endpoint (course_at c d.event n) es ms) _)

pub course_by-append : (c : Course) (es fs : List LineEvent) (ms ns : List Mark) → length es ≡ length ms → course_by c (es ++ fs) (ms ++ ns) ≡ course_by (course_by c es ms) fs ns
course_by-append c [] fs [] ns h = refl
course_by-append c [] fs (n ∷ ms) ns h = absurd (omega arith)
course_by-append c (d ∷ es) fs [] ns h = absurd (omega arith)
course_by-append c (d ∷ es) fs (n ∷ ms) ns h = course_by-append (course_at c d.event n) es fs ms ns (omega arith)

pub steps_by-append : (c : Course) (es fs : List LineEvent) (ms ns : List Mark) → length es ≡ length ms → steps_by c (es ++ fs) (ms ++ ns) ≡ steps_by c es ms + steps_by (course_by c es ms) fs ns
steps_by-append c [] fs [] ns h = omega arith
steps_by-append c [] fs (n ∷ ms) ns h = absurd (omega arith)
steps_by-append c (d ∷ es) fs [] ns h = absurd (omega arith)
steps_by-append c (d ∷ es) fs (n ∷ ms) ns h = omega (arith, steps_by-append (course_at c d.event n) es fs ms ns (omega arith))

pub requests-append : (x y : List LineEvent) → requests (x ++ y) ≡ requests x + requests y
requests-append [] y = omega arith
requests-append (e ∷ x) y = omega (arith, requests-append x y)

pub requests_on-append : (line : ℕ) (x y : List LineEvent) → requests_on line (x ++ y) ≡ requests_on line x + requests_on line y
requests_on-append line [] y = omega arith
requests_on-append line (e ∷ x) y = omega (arith, requests_on-append line x y)

pub take_front : (es more : List LineEvent) → take (length es) (es ++ more) ≡ es
take_front [] more = refl
take_front (d ∷ es) more = ap (λ (l : List LineEvent). d ∷ l) (take_front es more)

pub few_take : (n : ℕ) (es : List LineEvent) → length (take n es) ≤ length es
few_take zero es = omega arith
few_take (suc n) [] = omega arith
few_take (suc n) (d ∷ es) = omega (arith, few_take n es)
