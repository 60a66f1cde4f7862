-- Rules in a row that gave: each of them gave.
use Rattle.std.proofs.Common.{◌≡◌, ℕ, ◌≤◌, ◌<◌, ◌&&◌, Bool, true, false, List, length, Option, Some, None, option_map, option_and_then, Result, Ok, Err, IfSome, if◌then◌else◌, nat_le, nat_lt, ℤ, pos, negsuc, refl, subst}
use Rattle.std.proofs.lemmas.Bool.{and_parts, leb-true, ltb-true}
use Rattle.kms_text.proofs.TimeGrammarLemmas.{read_time_of-lt}
use Rattle.kms_text.specs.TimeForms.{read_time_of}
use Rattle.kms_world.specs.Times.{end_of_times}
use Rattle.kms_world.specs.declared.refusal.Field.{Field}
use Rattle.kms_world.specs.declared.refusal.Field.TheVariants.{BitLength, Expiration}
use Rattle.kms_world.specs.declared.refusal.Refusal.{Refusal}
use Rattle.kms_world.specs.declared.refusal.Refusal.TheVariants.{BadBody}
use Rattle.kms_secret.specs.Fields.{optional_text, required_text, bit_length_of, required_bit_length, optional_bit_length, later, later_time, expiration_by}
use Rattle.kms_secret.specs.Ranges.{IsShort, IsBitLength}
use Rattle.kms_secret.specs.Rules.{◌>>=◌, there}

abbrev pub given : {A : Type 0} → A → Result A Refusal
given x = Ok x

pub given_is : {A : Type 0} (x y : A) → given x ≡ given y → x ≡ y
given_is x y e = cc

-- the first gave, and so did the rest with what it gave
pub gave : {A B : Type 0} (r : Result A Refusal) (f : A → Result B Refusal) (y : B) → (r >>= f) ≡ given y → (x : A) × (r ≡ given x) × (f x ≡ given y)
gave (Ok x) f y e = (x, refl, e)
gave (Err refusal) f y e = absurd (cc)

pub was : {A : Type 0} (o : Option A) (refusal : Refusal) (x : A) → there o refusal ≡ given x → o ≡ Some x
was None refusal x e = absurd (cc)
was (Some y) refusal x e = cc

pub passed : {A : Type 0} (b : Bool) (x y : A) (refusal : Refusal) → (if b then given x else Err refusal) ≡ given y → (b ≡ true) × (x ≡ y)
passed true x y refusal e = (refl, given_is x y e)
passed false x y refusal e = absurd (cc)

pub not_refused : {A : Type 0} (b : Bool) (refusal : Refusal) (r : Result A Refusal) (y : A) → (if b then Err refusal else r) ≡ given y → (b ≡ false) × (r ≡ given y)
not_refused true refusal r y e = absurd (cc)
not_refused false refusal r y e = (refl, e)

abbrev pub found : {A : Type 0} → A → Option A
found x = Some x

pub found_is : {A : Type 0} (x y : A) → found x ≡ found y → x ≡ y
found_is x y e = cc

pub chosen : {A : Type 0} (b : Bool) (x y : A) → (if b then found x else None) ≡ found y → (b ≡ true) × (x ≡ y)
chosen true x y e = (refl, found_is x y e)
chosen false x y e = absurd (cc)

pub wrapped : {A : Type 0} (P : A → Type 0) (o kept : Option A) → ((x : A) → o ≡ Some x → P x) → option_map found o ≡ found kept → IfSome kept P
wrapped {A} P None kept law e = absurd (cc)
wrapped {A} P (Some x) kept law e = subst (λ (k : Option A). IfSome k P) (found_is (Some x) kept e) (law x refl)

-- ---- single fields

pub short : (field : Field) (text kept : Option (List ℕ)) → optional_text field text ≡ Ok kept → IfSome kept IsShort
short field None kept e = subst (λ (k : Option (List ℕ)). IfSome k IsShort) (given_is None kept e) tt
short field (Some text) kept e =
    let p = passed (nat_le (length text) 255) (Some text) kept (BadBody field) e in
    subst (λ (k : Option (List ℕ)). IfSome k IsShort) p.1 (leb-true (length text) 255 p.0)

pub needed : (field : Field) (text : Option (List ℕ)) (kept : List ℕ) → required_text field text ≡ Ok kept → (1 ≤ length kept) × IsShort kept
needed field None kept e = absurd (cc)
needed field (Some text) kept e =
    let p = passed (nat_le 1 (length text) && nat_le (length text) 255) text kept (BadBody field) e in
    let parts = and_parts _ _ p.0 in
    subst (λ (k : List ℕ). (1 ≤ length k) × IsShort k) p.1 (leb-true 1 (length text) parts.0, leb-true (length text) 255 parts.1)

in_bits : (number : ℤ) (n : ℕ) → bit_length_of number ≡ Some n → IsBitLength n
in_bits (pos m) n e =
    let p = chosen (nat_le 1 m && nat_le m 32767) m n e in
    let parts = and_parts _ _ p.0 in
    subst IsBitLength p.1 (leb-true 1 m parts.0, leb-true m 32767 parts.1)
in_bits (negsuc m) n e = absurd (cc)

pub bits : (number : Option ℤ) (n : ℕ) → required_bit_length number ≡ Ok n → IsBitLength n
bits None n e = absurd (cc)
bits (Some number) n e = in_bits number n (was (bit_length_of number) (BadBody BitLength) n e)

pub optional_bits : (number : Option ℤ) (kept : Option ℕ) → optional_bit_length number ≡ Ok kept → IfSome kept IsBitLength
optional_bits None kept e = subst (λ (k : Option ℕ). IfSome k IsBitLength) (given_is None kept e) tt
optional_bits (Some number) kept e =
    wrapped IsBitLength (bit_length_of number) kept (in_bits number) (was (option_map found (bit_length_of number)) (BadBody BitLength) kept e)

in_time : (text : List ℕ) (moment t : ℕ) → later_time text moment ≡ Some t → (moment < t) × (t < end_of_times)
in_time text moment t e = by (read_time_of text) refl e
  where
    by : (o : Option ℕ) → read_time_of text ≡ o → option_and_then (later moment) o ≡ Some t → (moment < t) × (t < end_of_times)
    by None f e = absurd (cc)
    by (Some s) f e =
        let p = chosen (nat_lt moment s) s t e in
        subst (λ (x : ℕ). (moment < x) × (x < end_of_times)) p.1 (ltb-true moment s p.0, read_time_of-lt text s f)

expires : (P : ℕ → Type 0) (text : Option (List ℕ)) (moment : ℕ) (kept : Option ℕ) → ((text : List ℕ) (t : ℕ) → later_time text moment ≡ Some t → P t) → expiration_by text moment ≡ Ok kept → IfSome kept P
expires P None moment kept law e = subst (λ (k : Option ℕ). IfSome k P) (given_is None kept e) tt
expires P (Some text) moment kept law e =
    wrapped P (later_time text moment) kept (law text) (was (option_map found (later_time text moment)) (BadBody Expiration) kept e)

pub expires_later : (text : Option (List ℕ)) (moment : ℕ) (kept : Option ℕ) → expiration_by text moment ≡ Ok kept → IfSome kept (λ t. moment < t)
expires_later text moment kept e = expires (λ t. moment < t) text moment kept (λ text t f. (in_time text moment t f).0) e

pub expires_in_time : (text : Option (List ℕ)) (moment : ℕ) (kept : Option ℕ) → expiration_by text moment ≡ Ok kept → IfSome kept (λ t. t < end_of_times)
expires_in_time text moment kept e = expires (λ t. t < end_of_times) text moment kept (λ text t f. (in_time text moment t f).1) e
