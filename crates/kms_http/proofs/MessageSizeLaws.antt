-- How many bytes messages and their parts have.
use Rattle.std.proofs.Common.{◌≡◌, ℕ, ◌+◌, ◌<◌, ◌≤◌, List, [], ◌∷◌, length, take, drop, nat_lt, Bool, true, false, Option, Some, None, Result, Ok, Err, cond, refl, ap, arith, length-drop, ltb-false}
use Rattle.std.proofs.lemmas.Bool.{ltb-true}
use Rattle.std.proofs.lemmas.List.{length-take}
use Rattle.std.specs.Prelude.{codes}
use Rattle.httparse.specs.Grammar.{RequestHead}
use Rattle.kms_world.specs.declared.refusal.Refusal.{Refusal}
use Rattle.kms_world.specs.declared.refusal.Refusal.TheVariants.{BadMessage, BodyTooLong, HeadTooLong, LengthRequired}
use Rattle.kms_http.specs.declared.message.Head.{Head}
use Rattle.kms_http.specs.declared.message.Message.{Message}
use Rattle.kms_http.specs.Fields.{Pair, values_of}
use Rattle.kms_http.specs.HeadEnd.{head_len}
use Rattle.kms_http.specs.Framing.{body_limit, is_number, number, wants_length, size_by, framed_by, framing, closes}
use Rattle.kms_http.specs.HeadEnd.{head_limit}
use Rattle.kms_http.specs.Heads.{whole_head}
use Rattle.kms_http.specs.Messages.{front, with_size, with_request, with_head, with_end, line_feeds, feed_limit, head_of, pairs_of}
use Rattle.kms_http.specs.Messages.Front.{Whole, Bad, Part}
use Rattle.kms_http.specs.Sizes.{AreShort, ArePartsShort}
use Rattle.kms_http.proofs.HeadLaws.{head_len-bounds}

size-bound : (method : List ℕ) (values : List (List ℕ)) (size : ℕ) → size_by method values ≡ Ok size → size ≤ body_limit
unfolding size_by
size-bound method [] size e = step (wants_length method) e
  where
    step : (a : Bool) → cond a (Err LengthRequired) (Ok 0) ≡ Ok size → size ≤ body_limit
    step true h = absurd (cc)
    step false h = let same : 0 ≡ size = cc in omega (arith, same)
size-bound method (value ∷ []) size e = step (is_number value) (nat_lt body_limit (number 0 value)) refl e
  where
    step : (a b : Bool) → nat_lt body_limit (number 0 value) ≡ b → cond a (cond b (Err BodyTooLong) (Ok (number 0 value))) (Err BadMessage) ≡ Ok size → size ≤ body_limit
    step true true test h = absurd (cc)
    step true false test h = let same : number 0 value ≡ size = cc in omega (arith, same, ltb-false body_limit (number 0 value) test)
    step false b test h = absurd (cc)
size-bound method (value ∷ other ∷ more) size e = absurd (cc)

framed-bound : (method : List ℕ) (codings lengths : List (List ℕ)) (size : ℕ) → framed_by method codings lengths ≡ Ok size → size ≤ body_limit
unfolding framed_by
framed-bound method [] lengths size e = size-bound method lengths size e
framed-bound method (coding ∷ more) lengths size e = absurd (cc)

-- a body has at most the limit's bytes
framing-bound : (method : List ℕ) (fields : List Pair) (size : ℕ) → framing method fields ≡ Ok size → size ≤ body_limit
framing-bound method fields size e = framed-bound method (values_of (codes "transfer-encoding") fields) (values_of (codes "content-length") fields) size e

whole-size : (r : Result ℕ Refusal) (head : Head) (close : Bool) (rest : List ℕ) (message : Message) (left : List ℕ) → ((size : ℕ) → r ≡ Ok size → size ≤ body_limit)
    → with_size r head close rest ≡ Whole message left → (length left ≤ length rest) × (length rest ≤ length left + body_limit)
whole-size (Err refusal) head close rest message left small e = absurd (cc)
whole-size (Ok size) head close rest message left small e = step (nat_lt (length rest) size) refl e
  where
    step : (b : Bool) → nat_lt (length rest) size ≡ b → cond b Part (Whole (record { head = head; body = take size rest; close = close }) (drop size rest)) ≡ Whole message left
        → (length left ≤ length rest) × (length rest ≤ length left + body_limit)
    step true short h = absurd (cc)
    step false long h =
        let same : drop size rest ≡ left = cc in
        (omega (arith, ap length same, length-drop size rest), omega (arith, small size refl, ap length same, length-drop size rest))

part-size : (r : Result ℕ Refusal) (head : Head) (close : Bool) (rest : List ℕ) → ((size : ℕ) → r ≡ Ok size → size ≤ body_limit)
    → with_size r head close rest ≡ Part → length rest < body_limit
part-size (Err refusal) head close rest small e = absurd (cc)
part-size (Ok size) head close rest small e = step (nat_lt (length rest) size) refl e
  where
    step : (b : Bool) → nat_lt (length rest) size ≡ b → cond b Part (Whole (record { head = head; body = take size rest; close = close }) (drop size rest)) ≡ Part → length rest < body_limit
    step true short h = omega (arith, ltb-true (length rest) size short, small size refl)
    step false long h = absurd (cc)

whole-request : (o : Option RequestHead) (rest : List ℕ) (message : Message) (left : List ℕ) → with_request o rest ≡ Whole message left
    → (length left ≤ length rest) × (length rest ≤ length left + body_limit)
whole-request None rest message left e = absurd (cc)
whole-request (Some h) rest message left e =
    whole-size (framing h.method (pairs_of h)) (head_of h) (closes h.minor (pairs_of h)) rest message left (framing-bound h.method (pairs_of h)) e

part-request : (o : Option RequestHead) (rest : List ℕ) → with_request o rest ≡ Part → length rest < body_limit
part-request None rest e = absurd (cc)
part-request (Some h) rest e =
    part-size (framing h.method (pairs_of h)) (head_of h) (closes h.minor (pairs_of h)) rest (framing-bound h.method (pairs_of h)) e

whole-head : (head rest : List ℕ) (message : Message) (left : List ℕ) → with_head head rest ≡ Whole message left
    → (length left ≤ length rest) × (length rest ≤ length left + body_limit)
whole-head head rest message left e = step (nat_lt feed_limit (line_feeds head)) e
  where
    step : (b : Bool) → cond b (Bad HeadTooLong) (with_request (whole_head head) rest) ≡ Whole message left
        → (length left ≤ length rest) × (length rest ≤ length left + body_limit)
    step true h = absurd (cc)
    step false h = whole-request (whole_head head) rest message left h

part-head : (head rest : List ℕ) → with_head head rest ≡ Part → length rest < body_limit
part-head head rest e = step (nat_lt feed_limit (line_feeds head)) e
  where
    step : (b : Bool) → cond b (Bad HeadTooLong) (with_request (whole_head head) rest) ≡ Part → length rest < body_limit
    step true h = absurd (cc)
    step false h = part-request (whole_head head) rest h

whole-end : (o : Option ℕ) (bytes : List ℕ) (message : Message) (rest : List ℕ) → head_len (take head_limit bytes) ≡ o → with_end o bytes ≡ Whole message rest
    → (length rest < length bytes) × (length bytes ≤ length rest + 81920)
whole-end None bytes message rest here e = step (nat_lt (length bytes) head_limit) e
  where
    step : (b : Bool) → cond b Part (Bad HeadTooLong) ≡ Whole message rest → (length rest < length bytes) × (length bytes ≤ length rest + 81920)
    step true h = absurd (cc)
    step false h = absurd (cc)
whole-end (Some n) bytes message rest here e =
    let bounds = head_len-bounds (take head_limit bytes) n here in
    let sizes = whole-head (take n bytes) (drop n bytes) message rest e in
    let searched = length-take head_limit bytes in
    let dropped = length-drop n bytes in
    (omega (arith, bounds.0, bounds.1, sizes.0, searched, dropped), omega (arith, bounds.0, bounds.1, sizes.1, searched, dropped))

part-end : (o : Option ℕ) (bytes : List ℕ) → head_len (take head_limit bytes) ≡ o → with_end o bytes ≡ Part → length bytes < 81920
part-end None bytes here e = step (nat_lt (length bytes) head_limit) refl e
  where
    step : (b : Bool) → nat_lt (length bytes) head_limit ≡ b → cond b Part (Bad HeadTooLong) ≡ Part → length bytes < 81920
    step true short h = omega (arith, ltb-true (length bytes) head_limit short)
    step false long h = absurd (cc)
part-end (Some n) bytes here e =
    let bounds = head_len-bounds (take head_limit bytes) n here in
    omega (arith, bounds.0, bounds.1, part-head (take n bytes) (drop n bytes) e, length-take head_limit bytes, length-drop n bytes)

pub message-short : AreShort
unfolding front
message-short bytes message rest e = whole-end (head_len (take head_limit bytes)) bytes message rest refl e

pub part-short : ArePartsShort
unfolding front
part-short bytes e = part-end (head_len (take head_limit bytes)) bytes refl e
