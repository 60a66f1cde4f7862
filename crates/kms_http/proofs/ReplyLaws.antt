-- How a printed reply begins, and that it is no fault's reply.
use Rattle.std.proofs.Common.{◌≡◌, ℕ, ◌+◌, ◌/◌, ◌%◌, ◌<◌, List, ◌∷◌, ◌++◌, length, get_or, Bool, refl, sym, ap, ◌∙◌, arith, append_assoc, codes}
use Rattle.kms_world.specs.declared.reply.Reply.{Reply}
use Rattle.http.specs.StatusCode.{code_digits}
use Rattle.kms_http.specs.Lines.{crlf}
use Rattle.kms_http.specs.Lines.{field}
use Rattle.kms_http.specs.Date.{date_of}
use Rattle.kms_http.specs.Reply.{printed, status_line, reason_of, media_field, length_field, allow_field, challenge_field, close_field, fault_reply_of}
use Rattle.kms_http.specs.declared.fault.FaultReply.{FaultReply}
use Rattle.kms_http.specs.declared.fault.FaultReply.TheVariants.{F1, F2, F3}

-- a status line, and then a field that begins with D
abbrev dated : ℕ → List ℕ → List ℕ
dated n a = codes "HTTP/1.1 " ++ code_digits n ++ codes " " ++ reason_of n ++ 13 ∷ 10 ∷ 68 ∷ a

parts : (v r n d m l a h k c b : List ℕ) → (v ++ r ++ n) ++ d ++ m ++ l ++ a ++ h ++ k ++ c ++ b ≡ v ++ (r ++ (n ++ (d ++ (m ++ (l ++ (a ++ (h ++ (k ++ (c ++ b)))))))))
parts v r n d m l a h k c b = simp append_assoc

-- the bytes behind the D
abbrev behind : Reply → ℕ → Bool → List ℕ
behind reply moment close =
    codes "ate" ++ codes ": " ++ date_of moment ++ crlf
    ++ (media_field reply.media ++ (length_field reply.status (length reply.body) ++ (allow_field reply.status reply.allow ++ (challenge_field reply.status ++ (close_field close ++ (crlf ++ reply.body))))))

pub begins : (reply : Reply) (moment : ℕ) (close : Bool) → printed reply moment close ≡ dated reply.status (behind reply moment close)
unfolding printed status_line
begins reply moment close =
    parts (codes "HTTP/1.1 " ++ code_digits reply.status ++ codes " ") (reason_of reply.status) crlf (field (codes "Date") (date_of moment))
    (media_field reply.media) (length_field reply.status (length reply.body)) (allow_field reply.status reply.allow) (challenge_field reply.status) (close_field close) crlf reply.body

-- a reply has bytes
pub some : (reply : Reply) (moment : ℕ) (close : Bool) → 0 < length (printed reply moment close)
some reply moment close = omega (arith, ap length (begins reply moment close))

reason_507 : reason_of 507 ≡ codes "Insufficient Storage"
unfolding reason_of
reason_507 = refl

reason_503 : reason_of 503 ≡ codes "Service Unavailable"
unfolding reason_of
reason_503 = refl

known_507 : (a b : List ℕ) → codes "HTTP/1.1 507 " ++ reason_of 507 ++ 13 ∷ 10 ∷ 68 ∷ a ≡ codes "HTTP/1.1 507 Insufficient Storage" ++ 13 ∷ 10 ∷ 67 ∷ b → ⊥
known_507 a b e =
    let d : ℕ = 68 in
    let c : ℕ = 67 in
    let letters : d ≡ c = ap (λ t. get_or t 35 0) (rw reason_507 at e) in
    omega arith

known_503 : (a b : List ℕ) → codes "HTTP/1.1 503 " ++ reason_of 503 ++ 13 ∷ 10 ∷ 68 ∷ a ≡ codes "HTTP/1.1 503 Service Unavailable" ++ 13 ∷ 10 ∷ 67 ∷ b → ⊥
known_503 a b e =
    let d : ℕ = 68 in
    let c : ℕ = 67 in
    let letters : d ≡ c = ap (λ t. get_or t 34 0) (rw reason_503 at e) in
    omega arith

apart_507 : (n : ℕ) (a b : List ℕ) → dated n a ≡ codes "HTTP/1.1 507 Insufficient Storage" ++ 13 ∷ 10 ∷ 67 ∷ b → ⊥
apart_507 n a b e =
    let first : 48 + n / 100 ≡ 53 = cc in
    let second : 48 + n / 10 % 10 ≡ 48 = cc in
    let third : 48 + n % 10 ≡ 55 = cc in
    let same : n ≡ 507 = omega arith in
    known_507 a b (rw same at e)

apart_503 : (n : ℕ) (a b : List ℕ) → dated n a ≡ codes "HTTP/1.1 503 Service Unavailable" ++ 13 ∷ 10 ∷ 67 ∷ b → ⊥
apart_503 n a b e =
    let first : 48 + n / 100 ≡ 53 = cc in
    let second : 48 + n / 10 % 10 ≡ 48 = cc in
    let third : 48 + n % 10 ≡ 51 = cc in
    let same : n ≡ 503 = omega arith in
    known_503 a b (rw same at e)

more_behind : (n : ℕ) (a x : List ℕ) → dated n a ++ x ≡ dated n (a ++ x)
more_behind n a x = ap (λ t. codes "HTTP/1.1 " ++ code_digits n ++ codes " " ++ t) (append_assoc (reason_of n) (13 ∷ 10 ∷ 68 ∷ a) x)

-- a printed reply and a fault's reply are apart before either ends
pub fault_apart : (fault : FaultReply) (reply : Reply) (moment : ℕ) (close : Bool) (a b : List ℕ) → printed reply moment close ++ a ≡ fault_reply_of fault ++ b → ⊥
unfolding fault_reply_of
fault_apart F1 reply moment close a b e =
    apart_503 reply.status (behind reply moment close ++ a) (codes "ontent-Length: 0" ++ crlf ++ codes "Connection: close" ++ crlf ++ crlf ++ b)
    (sym (ap (λ t. t ++ a) (begins reply moment close) ∙ more_behind reply.status (behind reply moment close) a) ∙ e)
fault_apart F2 reply moment close a b e =
    apart_503 reply.status (behind reply moment close ++ a) (codes "ontent-Length: 0" ++ crlf ++ codes "Retry-After: 1" ++ crlf ++ crlf ++ b)
    (sym (ap (λ t. t ++ a) (begins reply moment close) ∙ more_behind reply.status (behind reply moment close) a) ∙ e)
fault_apart F3 reply moment close a b e =
    apart_507 reply.status (behind reply moment close ++ a) (codes "ontent-Length: 0" ++ crlf ++ crlf ++ b)
    (sym (ap (λ t. t ++ a) (begins reply moment close) ∙ more_behind reply.status (behind reply moment close) a) ∙ e)
