-- A key file is one list of keys or has one first bad line, and a wrapped key is one key.
use Rattle.std.proofs.Common.{◌≡◌, ◌⊎◌, inl, inr, ℕ, ◌+◌, ◌<◌, ◌^◌, true, false, List, [], ◌∷◌, ◌++◌, length, map, refl, sym, ap, subst, ◌∙◌, arith, length-append, append_assoc}
use Rattle.std.specs.List.{AllByRecursion, IsDistinct}
use Rattle.std.specs.Str.{bytes_eq}
use Rattle.std.proofs.lemmas.Bool.{false≢true}
use Rattle.std.proofs.lemmas.Slice.Eq.{bytes_eq-Decides}
use Rattle.base64.specs.Engines.{url_safe}
use Rattle.base64.specs.GeneralPurpose.{IsBytes as AreBytes}
use Rattle.base64.proofs.EngineFacts.{IsAscii-encode_of}
use Rattle.kms_aes.specs.Cipher.{IsBytes, IsBlock}
use Rattle.kms_fernet.specs.Key.{base64url}
use Rattle.kms_fernet.specs.Wrapped.{Unwraps, IsNotWrapped}
use Rattle.kms_fernet.proofs.KeyLaws.{one_base64url}
use Rattle.kms_fernet.proofs.Unique.{opens_once}
use Rattle.kms_ring.specs.KeyFile.{AreKeys, IsKeyFile, IsBadKey, IsBadLine}
use Rattle.kms_ring.specs.Ring.{IsUnwrapped, IsUnderNone, IsWrapped}
use Rattle.kms_ring.specs.declared.bad_line.BadKey.{BadKey}
use Rattle.kms_ring.specs.declared.bad_line.BadKey.TheVariants.{NotAKey, SameAs, TooMany}
use Rattle.kms_ring.specs.declared.bad_line.BadLine.{BadLine}

-- ---- keys and their texts

one_key : (x y : List ℕ) → IsBytes 32 x → IsBytes 32 y → base64url x ≡ base64url y → x ≡ y
one_key x y fx fy e = one_base64url (base64url x) x y (record { fits = fx.fits; spelled = refl }) (record { fits = fy.fits; spelled = e })

pub same_keys : (a b : List (List ℕ)) → AllByRecursion (IsBytes 32) a → AllByRecursion (IsBytes 32) b → map base64url a ≡ map base64url b → a ≡ b
same_keys [] [] fa fb e = refl
same_keys [] (y ∷ b) fa fb e = absurd (cc)
same_keys (x ∷ a) [] fa fb e = absurd (cc)
same_keys (x ∷ a) (y ∷ b) fa fb e =
    let first : base64url x ≡ base64url y = cc in
    let others : map base64url a ≡ map base64url b = cc in
    let here : x ≡ y = one_key x y fa.0 fb.0 first in
    let there : a ≡ b = same_keys a b fa.1 fb.1 others in
    ap (λ (k : List ℕ). k ∷ a) here ∙ ap (λ (l : List (List ℕ)). y ∷ l) there

-- ---- how two readings of lines lie

-- behind these keys' lines stands one of this key
pub record GoesOn (keys : List (List ℕ)) (line : List ℕ) (more : List (List ℕ)) : Type 0 where
  pub key : List ℕ
  pub others : List (List ℕ)
  pub there : more ≡ keys ++ key ∷ others
  pub fits : IsBytes 32 key
  pub text : line ≡ base64url key

pub goes_on : (keys : List (List ℕ)) (line : List ℕ) (after more : List (List ℕ)) → AllByRecursion (IsBytes 32) keys → AllByRecursion (IsBytes 32) more
    → map base64url more ≡ map base64url keys ++ line ∷ after → GoesOn keys line more
goes_on [] line after [] fk fm e = absurd (cc)
goes_on [] line after (m ∷ more) fk fm e = let text : base64url m ≡ line = cc in record { key = m; others = more; there = refl; fits = fm.0; text = sym text }
goes_on (k ∷ keys) line after [] fk fm e = absurd (cc)
goes_on (k ∷ keys) line after (m ∷ more) fk fm e =
    let first : base64url m ≡ base64url k = cc in
    let others : map base64url more ≡ map base64url keys ++ line ∷ after = cc in
    let later = goes_on keys line after more fk.1 fm.1 others in
    let same : m ≡ k = one_key m k fm.0 fk.0 first in
    record {
      key = later.key;
      others = later.others;
      there = ap (λ (x : List ℕ). x ∷ more) same ∙ ap (λ (l : List (List ℕ)). k ∷ l) later.there;
      fits = later.fits;
      text = later.text;
    }

-- the same keys and the same line behind them
pub record IsSame (a b : List (List ℕ)) (first second : List ℕ) : Type 0 where
  pub keys : a ≡ b
  pub line : first ≡ second

pub compared : (a b : List (List ℕ)) (first second : List ℕ) (x y : List (List ℕ)) → AllByRecursion (IsBytes 32) a → AllByRecursion (IsBytes 32) b
    → map base64url a ++ first ∷ x ≡ map base64url b ++ second ∷ y → IsSame a b first second ⊎ (GoesOn a first b ⊎ GoesOn b second a)
compared [] [] first second x y fa fb e = inl (record { keys = refl; line = cc })
compared [] (k ∷ b) first second x y fa fb e = let text : first ≡ base64url k = cc in inr (inl (record { key = k; others = b; there = refl; fits = fb.0; text = text }))
compared (k ∷ a) [] first second x y fa fb e = let text : second ≡ base64url k = cc in inr (inr (record { key = k; others = a; there = refl; fits = fa.0; text = text }))
compared (k ∷ a) (m ∷ b) first second x y fa fb e =
    let head : base64url k ≡ base64url m = cc in
    let rest : map base64url a ++ first ∷ x ≡ map base64url b ++ second ∷ y = cc in
    let same : k ≡ m = one_key k m fa.0 fb.0 head in
    elim (compared a b first second x y fa.1 fb.1 rest) [
      | inl s ↦ inl (record { keys = ap (λ (l : List (List ℕ)). k ∷ l) s.keys ∙ ap (λ (z : List ℕ). z ∷ b) same; line = s.line })
      | inr (inl g) ↦ inr (inl (record { key = g.key; others = g.others; there = ap (λ (l : List (List ℕ)). m ∷ l) g.there ∙ ap (λ (z : List ℕ). z ∷ (a ++ g.key ∷ g.others)) (sym same); fits = g.fits; text = g.text }))
      | inr (inr g) ↦ inr (inr (record { key = g.key; others = g.others; there = ap (λ (l : List (List ℕ)). k ∷ l) g.there ∙ ap (λ (z : List ℕ). z ∷ (b ++ g.key ∷ g.others)) same; fits = g.fits; text = g.text }))
    ]

-- ---- no key stands twice

at_place : {A : Type 0} (P : A → Type 0) (xs : List A) (x : A) (ys : List A) → AllByRecursion P (xs ++ x ∷ ys) → P x
at_place {A} P [] x ys all = all.0
at_place {A} P (z ∷ xs) x ys all = at_place P xs x ys all.1

is_itself : (key : List ℕ) → bytes_eq key key ≡ true
is_itself key = (bytes_eq-Decides key key).1 refl

not_later : (key : List ℕ) (middle others : List (List ℕ)) → IsDistinct bytes_eq (key ∷ (middle ++ key ∷ others)) → ⊥
unfolding IsDistinct
not_later key middle others d = false≢true (sym (at_place (λ y. bytes_eq key y ≡ false) middle key others d.0) ∙ is_itself key)

not_twice : (before middle others : List (List ℕ)) (key : List ℕ) → IsDistinct bytes_eq (before ++ key ∷ (middle ++ key ∷ others)) → ⊥
unfolding IsDistinct
not_twice [] middle others key d = not_later key middle others d
not_twice (x ∷ before) middle others key d = not_twice before middle others key d.1

one_place : (key : List ℕ) (a b x y : List (List ℕ)) → IsDistinct bytes_eq (a ++ key ∷ x) → a ++ key ∷ x ≡ b ++ key ∷ y → length a ≡ length b
unfolding IsDistinct
one_place key [] [] x y d e = refl
one_place key [] (z ∷ b) x y d e =
    let head : key ≡ z = cc in
    let rest : x ≡ b ++ key ∷ y = cc in
    absurd (not_later key b y (subst (λ (l : List (List ℕ)). IsDistinct bytes_eq (key ∷ l)) rest d))
one_place key (z ∷ a) [] x y d e =
    let head : z ≡ key = cc in
    let again : IsDistinct bytes_eq (key ∷ (a ++ key ∷ x)) = subst (λ (k : List ℕ). IsDistinct bytes_eq (k ∷ (a ++ key ∷ x))) head d in
    absurd (not_later key a x again)
one_place key (z ∷ a) (w ∷ b) x y d e =
    let rest : a ++ key ∷ x ≡ b ++ key ∷ y = cc in
    let same = one_place key a b x y d.1 rest in omega (arith, same)

-- ---- bad lines

-- a line of one more good key isn't bad
pub not_bad : (keys more : List (List ℕ)) (line : List ℕ) (why : BadKey) → AreKeys more → GoesOn keys line more → IsBadKey keys line why → ⊥
not_bad keys more line TooMany good g bad = omega (arith, bad, good.few, ap length g.there, length-append keys (g.key ∷ g.others))
not_bad keys more line NotAKey good g bad = bad.1 g.key (record { fits = g.fits; spelled = g.text })
not_bad keys more line (SameAs place) good g bad =
    let at = bad.3 in
    let same : bad.1 ≡ g.key = one_key bad.1 g.key bad.2.fits g.fits (sym bad.2.spelled ∙ g.text) in
    let listed : more ≡ at.before ++ bad.1 ∷ (at.after ++ bad.1 ∷ g.others) =
    g.there
    ∙ ap (λ (l : List (List ℕ)). l ++ g.key ∷ g.others) at.there
    ∙ append_assoc at.before (bad.1 ∷ at.after) (g.key ∷ g.others)
    ∙ ap (λ (k : List ℕ). at.before ++ bad.1 ∷ (at.after ++ k ∷ g.others)) (sym same) in
    not_twice at.before at.after g.others bad.1 (subst (IsDistinct bytes_eq) listed good.distinct)

pub one_reason : (keys : List (List ℕ)) (line : List ℕ) (a b : BadKey) → AreKeys keys → IsBadKey keys line a → IsBadKey keys line b → a ≡ b
one_reason keys line TooMany TooMany good p q = refl
one_reason keys line TooMany NotAKey good p q = absurd (omega (arith, p, q.0))
one_reason keys line TooMany (SameAs n) good p q = absurd (omega (arith, p, q.0))
one_reason keys line NotAKey TooMany good p q = absurd (omega (arith, q, p.0))
one_reason keys line NotAKey NotAKey good p q = refl
one_reason keys line NotAKey (SameAs n) good p q = absurd (p.1 q.1 q.2)
one_reason keys line (SameAs m) TooMany good p q = absurd (omega (arith, q, p.0))
one_reason keys line (SameAs m) NotAKey good p q = absurd (q.1 p.1 p.2)
one_reason keys line (SameAs m) (SameAs n) good p q =
    let same : q.1 ≡ p.1 = one_key q.1 p.1 q.2.fits p.2.fits (sym q.2.spelled ∙ p.2.spelled) in
    let there : p.3.before ++ p.1 ∷ p.3.after ≡ q.3.before ++ p.1 ∷ q.3.after = sym p.3.there ∙ q.3.there ∙ ap (λ (k : List ℕ). q.3.before ++ k ∷ q.3.after) same in
    let places = one_place p.1 p.3.before q.3.before p.3.after q.3.after (subst (IsDistinct bytes_eq) p.3.there good.distinct) there in
    let numbers : m ≡ n = omega (arith, p.3.at, q.3.at, places) in
    ap SameAs numbers

pub sound_file : (text : List ℕ) (keys : List (List ℕ)) (bad : BadLine) → IsKeyFile text keys → IsBadLine text bad → ⊥
sound_file text keys bad file b = not_bad b.keys keys b.line bad.why file.good (goes_on b.keys b.line b.after keys b.good.each file.good.each (sym file.lines ∙ b.lines)) b.next.why

pub one_file : (text : List ℕ) (a b : List (List ℕ)) → IsKeyFile text a → IsKeyFile text b → a ≡ b
one_file text a b fa fb = same_keys a b fa.good.each fb.good.each (sym fa.lines ∙ fb.lines)

same_bad : (a b : BadLine) → a.line ≡ b.line → a.why ≡ b.why → a ≡ b
same_bad a b line why =
    ap (λ (n : ℕ). let x : BadLine = record { line = n; why = a.why } in x) line ∙ ap (λ (w : BadKey). let x : BadLine = record { line = b.line; why = w } in x) why

pub one_bad : (text : List ℕ) (a b : BadLine) → IsBadLine text a → IsBadLine text b → a ≡ b
one_bad text a b p q =
    elim (compared p.keys q.keys p.line q.line p.after q.after p.good.each q.good.each (sym p.lines ∙ q.lines)) [
      | inl s ↦ same_bad a b (p.next.at ∙ ap (λ (l : List (List ℕ)). length l + 1) s.keys ∙ sym q.next.at)
          (one_reason q.keys q.line a.why b.why q.good (subst (λ (l : List ℕ). IsBadKey q.keys l a.why) s.line (subst (λ (ks : List (List ℕ)). IsBadKey ks p.line a.why) s.keys p.next.why)) q.next.why)
      | inr (inl g) ↦ absurd (not_bad p.keys q.keys p.line a.why q.good g p.next.why)
      | inr (inr g) ↦ absurd (not_bad q.keys p.keys q.line b.why p.good g q.next.why)
    ]

-- ---- wrapped keys

one_unwrapped : (master wrapped a b : List ℕ) → IsBytes 32 master → Unwraps master wrapped a → Unwraps master wrapped b → a ≡ b
one_unwrapped master wrapped a b fits p q = one_key a b p.fits q.fits (opens_once master wrapped (base64url a) (base64url b) fits p.opens q.opens)

first_one : (wrapped a b m n : List ℕ) (x y s t : List (List ℕ)) → AllByRecursion (IsBytes 32) (x ++ m ∷ s) → x ++ m ∷ s ≡ y ++ n ∷ t
    → IsUnderNone x wrapped → IsUnderNone y wrapped → Unwraps m wrapped a → Unwraps n wrapped b → a ≡ b
first_one wrapped a b m n [] [] s t fits e nx ny p q =
    let same : m ≡ n = cc in one_unwrapped m wrapped a b fits.0 p (subst (λ (k : List ℕ). Unwraps k wrapped b) (sym same) q)
first_one wrapped a b m n [] (z ∷ y) s t fits e nx ny p q = let same : m ≡ z = cc in absurd (ny.0 a (subst (λ (k : List ℕ). Unwraps k wrapped a) same p))
first_one wrapped a b m n (z ∷ x) [] s t fits e nx ny p q = let same : n ≡ z = cc in absurd (nx.0 b (subst (λ (k : List ℕ). Unwraps k wrapped b) same q))
first_one wrapped a b m n (z ∷ x) (w ∷ y) s t fits e nx ny p q =
    let rest : x ++ m ∷ s ≡ y ++ n ∷ t = cc in first_one wrapped a b m n x y s t fits.1 rest nx.1 ny.1 p q

pub unwrapped_once : (masters : List (List ℕ)) (wrapped a b : List ℕ) → AllByRecursion (IsBytes 32) masters → IsUnwrapped masters wrapped a → IsUnwrapped masters wrapped b → a ≡ b
unwrapped_once masters wrapped a b fits p q =
    first_one wrapped a b p.master q.master p.before q.before p.after q.after (subst (AllByRecursion (IsBytes 32)) p.among fits) (sym p.among ∙ q.among) p.not_before q.not_before p.opens q.opens

pub not_unwrapped : (masters : List (List ℕ)) (wrapped key : List ℕ) → IsUnderNone masters wrapped → IsUnwrapped masters wrapped key → ⊥
not_unwrapped masters wrapped key none p = at_place (λ m. IsNotWrapped m wrapped) p.before p.master p.after (subst (λ (l : List (List ℕ)). IsUnderNone l wrapped) p.among none) key p.opens

pub behind_another : (first : List ℕ) (masters : List (List ℕ)) (wrapped key : List ℕ) → IsNotWrapped first wrapped → IsUnwrapped masters wrapped key → IsUnwrapped (first ∷ masters) wrapped key
behind_another first masters wrapped key not p = record {
  before = first ∷ p.before;
  master = p.master;
  after = p.after;
  among = ap (λ (l : List (List ℕ)). first ∷ l) p.among;
  not_before = (not, p.not_before);
  opens = p.opens;
}

text_fits : (key : List ℕ) → AreBytes (base64url key)
text_fits key i = omega (arith, IsAscii-encode_of url_safe key i)

pub wrapped_unwraps : (masters : List (List ℕ)) (moment : ℕ) (iv key wrapped : List ℕ) → AllByRecursion (IsBytes 32) masters → moment < 2 ^ 64 → IsBlock iv → IsBytes 32 key
    → IsWrapped masters moment iv key wrapped → IsUnwrapped masters wrapped key
wrapped_unwraps [] moment iv key wrapped fits in_range is_iv is_key is = absurd is
wrapped_unwraps (first ∷ others) moment iv key wrapped fits in_range is_iv is_key is = record {
  before = [];
  master = first;
  after = others;
  among = refl;
  not_before = tt;
  opens = record {
    fits = is_key;
    opens = record { moment = moment; iv = iv; moment_fits = in_range; iv_fits = is_iv; plain_fits = text_fits key; token = is };
  };
}
