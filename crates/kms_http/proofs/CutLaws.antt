-- A message stays what it is when more bytes come.
use Rattle.std.proofs.Common.{◌≡◌, ℕ, ◌≤◌, List, ◌++◌, length, take, drop, nat_lt, Bool, true, false, Option, Some, None, Result, Ok, Err, cond, refl, sym, ap, ◌∙◌, subst, arith, length-append, ltb-false}
use Rattle.std.proofs.lemmas.Bool.{le-ltb}
use Rattle.std.proofs.lemmas.List.{take-append-le, drop-append-le}
use Rattle.httparse.specs.Grammar.{RequestHead}
use Rattle.kms_world.specs.declared.refusal.Refusal.{Refusal}
use Rattle.kms_world.specs.declared.refusal.Refusal.TheVariants.{HeadTooLong}
use Rattle.kms_http.specs.Framing.{framing, closes}
use Rattle.kms_http.specs.HeadEnd.{head_len}
use Rattle.kms_http.specs.HeadEnd.{head_limit}
use Rattle.kms_http.specs.declared.message.Head.{Head}
use Rattle.kms_http.specs.Heads.{whole_head}
use Rattle.kms_http.specs.Messages as spec
use Rattle.kms_http.specs.Messages.{Front, front, with_size, with_parts, with_request, with_head, with_end, line_feeds, feed_limit, head_of}
use Rattle.kms_http.specs.Messages.Front.{Whole, Bad, Part}
use Rattle.kms_http.specs.Cuts.{KeepsMessages, KeepsRefusals}
use Rattle.kms_http.proofs.MessageFrontLaws.{front-after-more}

-- with more bytes after the rest
abbrev pub extended : Front → List ℕ → Front
extended (Whole message rest) more = Whole message (rest ++ more)
extended (Bad refusal) more = Bad refusal
extended Part more = Part

-- no bytes are wanted
abbrev pub IsSettled : Front → Type 0
IsSettled (Whole message rest) = Unit {0}
IsSettled (Bad refusal) = Unit {0}
IsSettled Part = ⊥

size-more : (size : Result ℕ Refusal) (head : Head) (close : Bool) (rest more : List ℕ) → IsSettled (with_size size head close rest)
    → with_size size head close (rest ++ more) ≡ extended (with_size size head close rest) more
size-more (Err refusal) head close rest more settled = refl
size-more (Ok size) head close rest more settled = step (nat_lt (length rest) size) refl settled
  where
    step : (b : Bool) → nat_lt (length rest) size ≡ b → IsSettled (cond b Part (Whole (record { head = head; body = take size rest; close = close }) (drop size rest)))
        → with_size (Ok size) head close (rest ++ more) ≡ extended (cond b Part (Whole (record { head = head; body = take size rest; close = close }) (drop size rest))) more
    step true short h = absurd h
    step false long h =
        let within : size ≤ length rest = ltb-false (length rest) size long in
        let longer : nat_lt (length (rest ++ more)) size ≡ false = le-ltb (length (rest ++ more)) size (omega (arith, length-append rest more)) in
        rw (longer, take-append-le size rest more within, drop-append-le size rest more within) refl

request-more : (o : Option RequestHead) (rest more : List ℕ) → IsSettled (with_request o rest) → with_request o (rest ++ more) ≡ extended (with_request o rest) more
request-more None rest more settled = refl
request-more (Some h) rest more settled =
    size-more (framing h.method (spec.pairs_of h)) (head_of h) (closes h.minor (spec.pairs_of h)) rest more settled

head-rest-more : (head rest more : List ℕ) → IsSettled (with_head head rest) → with_head head (rest ++ more) ≡ extended (with_head head rest) more
head-rest-more head rest more settled = step (nat_lt feed_limit (line_feeds head)) settled
  where
    step : (b : Bool) → IsSettled (cond b (Bad HeadTooLong) (with_request (whole_head head) rest))
        → cond b (Bad HeadTooLong) (with_request (whole_head head) (rest ++ more)) ≡ extended (cond b (Bad HeadTooLong) (with_request (whole_head head) rest)) more
    step true h = refl
    step false h = request-more (whole_head head) rest more h

end-more : (bytes more : List ℕ) (o : Option ℕ) → head_len (take head_limit bytes) ≡ o → IsSettled (with_end o bytes)
    → front (bytes ++ more) ≡ extended (with_end o bytes) more
unfolding front
end-more bytes more None here settled = step (nat_lt (length bytes) head_limit) refl settled
  where
    step : (b : Bool) → nat_lt (length bytes) head_limit ≡ b → IsSettled (cond b Part (Bad HeadTooLong))
        → with_end (head_len (take head_limit (bytes ++ more))) (bytes ++ more) ≡ extended (cond b Part (Bad HeadTooLong)) more
    step true short h = absurd h
    step false long h =
        let within : head_limit ≤ length bytes = ltb-false (length bytes) head_limit long in
        let longer : nat_lt (length (bytes ++ more)) head_limit ≡ false = le-ltb (length (bytes ++ more)) head_limit (omega (arith, length-append bytes more)) in
        rw (take-append-le head_limit bytes more within, here, longer) refl
end-more bytes more (Some n) here settled =
    front-after-more bytes more n here ∙ head-rest-more (take n bytes) (drop n bytes) more settled

front-by-end : (bytes : List ℕ) → front bytes ≡ with_end (head_len (take head_limit bytes)) bytes
unfolding front
front-by-end bytes = refl

pub settled-more : (bytes more : List ℕ) → IsSettled (front bytes) → front (bytes ++ more) ≡ extended (front bytes) more
settled-more bytes more settled =
    end-more bytes more (head_len (take head_limit bytes)) refl (subst IsSettled (front-by-end bytes) settled) ∙ ap (λ f. extended f more) (sym (front-by-end bytes))

pub front-keeps : KeepsMessages
front-keeps bytes more message rest e = settled-more bytes more (rw e tt) ∙ ap (λ f. extended f more) e

pub front-refuses : KeepsRefusals
front-refuses bytes more refusal e = settled-more bytes more (rw e tt) ∙ ap (λ f. extended f more) e
