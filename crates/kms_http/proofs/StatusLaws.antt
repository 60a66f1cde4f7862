-- Statuses with a reason phrase are codes of three digits.
use Rattle.std.proofs.Common.{◌≡◌, ℕ, ◌&&◌, List, Bool, true, false, Option, Some, Result, Ok, Err, is_some, nat_eq, nat_le, nat_lt, cond, refl, arith, rules}
use Rattle.std.proofs.lemmas.Bool.Decides.{nat_tests}
use Rattle.std.specs.Result.{IsOk, OkIff}
use Rattle.http.specs.StatusCode.{IsStatusCode, reason_phrase}

abbrev is_in_range : ℕ → Bool
is_in_range k = nat_le 100 k && nat_lt k 1000

same_code : (n k : ℕ) → is_in_range k ≡ true → nat_eq n k ≡ true → IsStatusCode n
same_code n k range same = (grind (arith, nat_tests), grind (arith, nat_tests))

-- it is this code, or one of the others
next : (n k : ℕ) (phrase : List ℕ) (others : Option (List ℕ)) → is_in_range k ≡ true → (is_some others ≡ true → IsStatusCode n)
    → is_some (cond (nat_eq n k) (Some phrase) others) ≡ true → IsStatusCode n
next n k phrase others range rest e = step (nat_eq n k) refl e
  where
    step : (b : Bool) → nat_eq n k ≡ b → is_some (cond b (Some phrase) others) ≡ true → IsStatusCode n
    step true same h = same_code n k range same
    step false other h = rest h

pub is_code : (n : ℕ) → is_some (reason_phrase n) ≡ true → IsStatusCode n
is_code n =
    next n 100 _ _ refl (next n 101 _ _ refl (next n 102 _ _ refl (next n 103 _ _ refl (next n 200 _ _ refl (next n 201 _ _ refl (
    next n 202 _ _ refl (next n 203 _ _ refl (next n 204 _ _ refl (next n 205 _ _ refl (next n 206 _ _ refl (next n 207 _ _ refl (
    next n 208 _ _ refl (next n 226 _ _ refl (next n 300 _ _ refl (next n 301 _ _ refl (next n 302 _ _ refl (next n 303 _ _ refl (
    next n 304 _ _ refl (next n 305 _ _ refl (next n 307 _ _ refl (next n 308 _ _ refl (next n 400 _ _ refl (next n 401 _ _ refl (
    next n 402 _ _ refl (next n 403 _ _ refl (next n 404 _ _ refl (next n 405 _ _ refl (next n 406 _ _ refl (next n 407 _ _ refl (
    next n 408 _ _ refl (next n 409 _ _ refl (next n 410 _ _ refl (next n 411 _ _ refl (next n 412 _ _ refl (next n 413 _ _ refl (
    next n 414 _ _ refl (next n 415 _ _ refl (next n 416 _ _ refl (next n 417 _ _ refl (next n 418 _ _ refl (next n 421 _ _ refl (
    next n 422 _ _ refl (next n 423 _ _ refl (next n 424 _ _ refl (next n 425 _ _ refl (next n 426 _ _ refl (next n 428 _ _ refl (
    next n 429 _ _ refl (next n 431 _ _ refl (next n 451 _ _ refl (next n 500 _ _ refl (next n 501 _ _ refl (next n 502 _ _ refl (
    next n 503 _ _ refl (next n 504 _ _ refl (next n 505 _ _ refl (next n 506 _ _ refl (next n 507 _ _ refl (next n 508 _ _ refl (
    next n 510 _ _ refl (next n 511 _ _ refl (λ e. absurd (cc)))))))))))))))))))))))))))))))))))))))))))))))))))))))))))))))

pub ok_when : {E : Type 0} (r : Result ℕ E) (P : Type 0) (v : ℕ) → OkIff r P v → P → IsOk r
ok_when (Ok x) P v e p = search rules
ok_when (Err x) P v e p = absurd (e p)
