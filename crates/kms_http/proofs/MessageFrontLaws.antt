-- A front, by the end of its head.
use Rattle.std.proofs.Common.{◌≡◌, ℕ, ◌-◌, ◌<◌, ◌≤◌, List, ◌++◌, length, take, drop, nat_lt, true, false, Some, None, refl, sym, ap, ◌∙◌, subst, arith, length-drop, drop-drop}
use Rattle.std.proofs.lemmas.Bool.{le-ltb}
use Rattle.std.proofs.lemmas.Bool.Decides.{Decides-ltb}
use Rattle.std.proofs.lemmas.List.{length-take, take-append-le, drop-append-le}
use Rattle.httparse.specs.Grammar.{RequestHead}
use Rattle.httparse.specs.Spans.{IsRequestAt}
use Rattle.httparse.specs.declared.spans.HeaderSpan.{HeaderSpan}
use Rattle.httparse.specs.declared.spans.RequestSpans.{RequestSpans}
use Rattle.kms_http.specs.declared.message_front.Found.{Found}
use Rattle.kms_http.specs.declared.message_front.Found.TheVariants as found
use Rattle.kms_world.specs.declared.refusal.Refusal.TheVariants.{HeadTooLong}
use Rattle.kms_http.specs.Heads.{whole_head}
use Rattle.kms_http.specs.HeadEnd.{head_len}
use Rattle.kms_http.specs.HeadEnd.{head_limit}
use Rattle.kms_http.specs.MessageFound.{IsFound, IsFoundAfter, head_at}
use Rattle.kms_http.specs.Messages.{Front, front, with_head, with_parts, line_feeds, head_of}
use Rattle.kms_http.specs.Messages.Front.{Whole, Bad, Part}
use Rattle.kms_http.proofs.HeadLaws.{head_len-bounds, head-more}

pub front-without : (bytes : List ℕ) → head_len (take head_limit bytes) ≡ None → length bytes < head_limit → front bytes ≡ Part
unfolding front
front-without bytes none short =
    let test : nat_lt (length bytes) head_limit ≡ true = (Decides-ltb (length bytes) head_limit).1 short in
    rw (none, test) refl

pub front-over : (bytes : List ℕ) → head_len (take head_limit bytes) ≡ None → head_limit ≤ length bytes → front bytes ≡ Bad HeadTooLong
unfolding front
front-over bytes none long =
    let test : nat_lt (length bytes) head_limit ≡ false = le-ltb (length bytes) head_limit long in
    rw (none, test) refl

pub front-after : (bytes : List ℕ) (n : ℕ) → head_len (take head_limit bytes) ≡ Some n → front bytes ≡ with_head (take n bytes) (drop n bytes)
unfolding front
front-after bytes n here = rw here refl

-- with more bytes
pub front-after-more : (bytes more : List ℕ) (n : ℕ) → head_len (take head_limit bytes) ≡ Some n → front (bytes ++ more) ≡ with_head (take n bytes) (drop n bytes ++ more)
front-after-more bytes more n here =
    let within : n ≤ length bytes = omega (arith, (head_len-bounds (take head_limit bytes) n here).1, length-take head_limit bytes) in
    front-after (bytes ++ more) n (head-more head_limit bytes more n here)
    ∙ ap (λ h. with_head h (drop n (bytes ++ more))) (take-append-le n bytes more within)
    ∙ ap (with_head (take n bytes)) (drop-append-le n bytes more within)

pub found-after : (f : Found) (bytes : List ℕ) (n : ℕ) → head_len (take head_limit bytes) ≡ Some n → IsFoundAfter f n (with_head (take n bytes)) (drop n bytes) → IsFound f bytes
found-after (found.Whole message used) bytes n here (is, low, high) =
    let within : n ≤ length bytes = omega (arith, (head_len-bounds (take head_limit bytes) n here).1, length-take head_limit bytes) in
    let rest : drop (used - n) (drop n bytes) ≡ drop used bytes = drop-drop (used - n) n bytes ∙ ap (λ k. drop k bytes) (omega arith) in
    (front-after bytes n here ∙ is ∙ ap (Whole message) rest, omega (arith, length-drop n bytes))
found-after (found.Bad refusal) bytes n here is = front-after bytes n here ∙ is
found-after found.Headless bytes n here is = absurd is
found-after (found.Part wanted) bytes n here (is, waits) =
    let within : n ≤ length bytes = omega (arith, (head_len-bounds (take head_limit bytes) n here).1, length-take head_limit bytes) in
    (front-after bytes n here ∙ is, λ more few. front-after-more bytes more n here ∙ waits more (omega (arith, length-drop n bytes)))

-- by another name of the same function
pub found-same : (f : Found) (at : ℕ) (p q : List ℕ → Front) (rest : List ℕ) → ((r : List ℕ) → q r ≡ p r) → IsFoundAfter f at p rest → IsFoundAfter f at q rest
found-same (found.Whole message used) at p q rest same (is, low, high) = (same rest ∙ is, low, high)
found-same (found.Bad refusal) at p q rest same is = same rest ∙ is
found-same found.Headless at p q rest same is = absurd is
found-same (found.Part wanted) at p q rest same (is, waits) = (same rest ∙ is, λ more few. same (rest ++ more) ∙ waits more few)

pub head-parts : (head : List ℕ) (h : RequestHead) → line_feeds head ≤ 66 → whole_head head ≡ Some h → (r : List ℕ) → with_head head r ≡ with_parts (head_of h) h.minor r
head-parts head h few here r =
    let test : nat_lt 66 (line_feeds head) ≡ false = le-ltb 66 (line_feeds head) few in
    rw (test, here) refl

pub head-at : (bytes : List ℕ) (headers : List HeaderSpan) (spans : RequestSpans) (h : RequestHead) → IsRequestAt bytes headers spans h → head_at bytes headers spans ≡ head_of h
head-at bytes headers spans h is = λ i. record { method = is.method i; target = is.path i; fields = is.fields i }

pub found-parted : (f : Found) (bytes head rest : List ℕ) (n : ℕ) → head_len (take head_limit bytes) ≡ Some n → head ≡ take n bytes → rest ≡ drop n bytes → length head ≡ n
    → IsFoundAfter f (length head) (with_head head) rest → IsFound f bytes
found-parted f bytes head rest n here front_is back_is len h =
    let whole : IsFoundAfter f (length (take n bytes)) (with_head (take n bytes)) rest = subst (λ (a : List ℕ). IsFoundAfter f (length a) (with_head a) rest) front_is h in
    let back : IsFoundAfter f (length (take n bytes)) (with_head (take n bytes)) (drop n bytes) = subst (λ (b : List ℕ). IsFoundAfter f (length (take n bytes)) (with_head (take n bytes)) b) back_is whole in
    found-after f bytes n here (subst (λ (k : ℕ). IsFoundAfter f k (with_head (take n bytes)) (drop n bytes)) (ap length (sym front_is) ∙ len) back)
