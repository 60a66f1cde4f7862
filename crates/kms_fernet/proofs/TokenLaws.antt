-- The parts of a token as they are written.
use Rattle.std.proofs.Common.{◌≡◌, ℕ, ◌+◌, ◌≤◌, List, [], ◌∷◌, ◌++◌, length, take, drop, replicate, arith, ap, ◌∙◌}
use Rattle.std.proofs.lemmas.List.{take_at, drop_at, length-append, append-nil, take_all, drop_all, length-drop, length-take}
use Rattle.std.proofs.lemmas.Slice.{take-put_mid_below}
use Rattle.std.specs.Int.{w64, to_be_bytes}
use borrow.Rule.Slice.PartMut.{put_mid}
use Rattle.kms_fernet.specs.Cbc.{padding_len, padded, cbc}
use Rattle.kms_fernet.specs.Hmac.{hmac}
use Rattle.kms_fernet.specs.Key.{signing_key, enciphering_key}
use Rattle.kms_fernet.specs.Token.{signed_part, token_bytes}

-- a part that reaches to the end is written
pub put_end : (at k : ℕ) (xs ys : List ℕ) → length xs ≤ at + k → put_mid at k xs ys ≡ take at xs ++ ys
put_end at k xs ys end =
    let rest = length-drop at xs in
    ap (λ (t : List ℕ). take at xs ++ (ys ++ t)) (drop_all k (drop at xs) (omega arith))
    ∙ ap (λ (t : List ℕ). take at xs ++ t) (append-nil ys)

pub padded_written : (plain copied out filled : List ℕ) (k m v : ℕ) → length out ≡ length plain + padding_len (length plain)
    → copied ≡ plain → length (copied ++ drop (length plain) out) ≤ length plain + k
    → filled ≡ replicate m v → m ≡ padding_len (length plain) → v ≡ padding_len (length plain)
    → put_mid (length plain) k (copied ++ drop (length plain) out) filled ≡ padded plain
unfolding padded
padded_written plain copied out filled k m v len same end is count value =
    put_end (length plain) k (copied ++ drop (length plain) out) filled end
    ∙ ap (λ (t : List ℕ). t ++ filled) (take_at copied (drop (length plain) out) (length plain) (ap length same) ∙ same)
    ∙ ap (λ (t : List ℕ). plain ++ t)
    (is
    ∙ ap (λ (n : ℕ). replicate n v) count
    ∙ ap (λ (n : ℕ). replicate (padding_len (length plain)) n) value)

-- the body of a token behind its head: what is put at place 25 is read there, and put again
pub body_read : (head body : List ℕ) (k n : ℕ) → length head ≡ 25 + k → length body ≡ k → n ≡ k
    → take n (drop 25 (put_mid 25 k head body)) ≡ body
body_read head body k n len size count =
    let whole = put_end 25 k head body (omega arith) in
    let front : length (take 25 head) ≡ 25 = let t = length-take 25 head in omega arith in
    ap (λ (t : List ℕ). take n (drop 25 t)) whole
    ∙ ap (take n) (drop_at (take 25 head) body 25 front)
    ∙ take_all n body (omega arith)

pub signed_written : (start first second head body ciphertext iv moment_bytes : List ℕ) (moment k n : ℕ)
    → take (0 + 1) first ≡ take 0 start ++ 0x80 ∷ []
    → moment_bytes ≡ to_be_bytes w64 moment
    → take (1 + length moment_bytes) second ≡ take 1 first ++ moment_bytes
    → length iv ≡ 16 → take (9 + length iv) head ≡ take 9 second ++ iv
    → 25 ≤ length head → length head ≤ 25 + k → length (put_mid 25 k head body) ≤ 25 + n
    → put_mid 25 n (put_mid 25 k head body) ciphertext ≡ signed_part moment iv ciphertext
unfolding signed_part
signed_written start first second head body ciphertext iv moment_bytes moment k n version is clock iv_len vector long end last =
    let eight : length moment_bytes ≡ 8 = ap length is in
    let nine : take 9 second ≡ 0x80 ∷ to_be_bytes w64 moment
    = ap (λ (m : ℕ). take m second) (let e : 9 ≡ 1 + length moment_bytes = omega arith in e)
    ∙ clock ∙ ap (λ (t : List ℕ). t ++ moment_bytes) version ∙ ap (λ (t : List ℕ). 0x80 ∷ t) is in
    put_end 25 n (put_mid 25 k head body) ciphertext last
    ∙ ap (λ (t : List ℕ). t ++ ciphertext)
    (take-put_mid_below 25 k head body 25 (omega arith) long
    ∙ ap (λ (m : ℕ). take m head) (let e : 25 ≡ 9 + length iv = omega arith in e)
    ∙ vector
    ∙ ap (λ (t : List ℕ). t ++ iv) nine)

pub length-put_end : (at k : ℕ) (xs ys : List ℕ) → length xs ≡ at + k → length ys ≡ k → length (put_mid at k xs ys) ≡ at + k
length-put_end at k xs ys len size =
    let whole = ap length (put_end at k xs ys (omega arith)) in
    let both = length-append (take at xs) ys in
    let front = length-take at xs in
    omega arith

pub token_written : (key iv plain signed rest tag : List ℕ) (moment end k : ℕ) (mac : List ℕ)
    → length signed ≡ end → length (signed ++ rest) ≤ end + k
    → signed ≡ signed_part moment iv (cbc (enciphering_key key) iv (padded plain))
    → tag ≡ mac → mac ≡ hmac (signing_key key) (take end (signed ++ rest))
    → put_mid end k (signed ++ rest) tag ≡ token_bytes key moment iv plain
unfolding token_bytes
token_written key iv plain signed rest tag moment end k mac len last is copied made =
    let front : take end (signed ++ rest) ≡ signed = take_at signed rest end len in
    put_end end k (signed ++ rest) tag last
    ∙ ap (λ (t : List ℕ). t ++ tag) front
    ∙ ap (λ (t : List ℕ). signed ++ t) (copied ∙ made ∙ ap (hmac (signing_key key)) front)
    ∙ ap (λ (t : List ℕ). t ++ hmac (signing_key key) t) is
