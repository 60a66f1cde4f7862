-- The users of a body, as they are taken one after the other.
use denote.Ref.{Bor}
use Rattle.std.proofs.Common.{◌≡◌, ℕ, ◌+◌, ◌<◌, ◌≤◌, Bool, true, false, ◌||◌, if◌then◌else◌, nat_le, nat_lt, List, [], ◌∷◌, ◌++◌, length, Some, None, take, drop, get_or, refl, sym, ap, subst, ◌∙◌, arith, length-append, le_trans, le_refl, take-append-drop, take_all}
use Rattle.std.specs.BTreeSet.{BTreeSet}
use Rattle.std.specs.List.{list_all}
use Rattle.std.proofs.lemmas.Bool.{and_parts, and_from, leb-true, le-leb, lt-ltb, false_from_ne_true, true_from_ne_false, both_ways}
use Rattle.std.proofs.lemmas.List.{take_more}
use Rattle.std.proofs.lemmas.List.Folds.{list_all_more, list_all_at}
use Rattle.std.proofs.lemmas.Option.{cond_some}
use Rattle.kms_world.specs.Name.{is_name}
use Rattle.kms_world.specs.declared.refusal.CheckFault.{CheckFault}
use Rattle.kms_world.specs.declared.refusal.CheckFault.TheVariants.{Refused, NoMemory}
use Rattle.kms_policy.specs.Acl.{without_repeats, are_users}
use Rattle.kms_policy.specs.Policy.{is_among}
use Rattle.kms_policy.specs.Users.{with_name, is_taken, has_text, HasNames, TakesUser, RefusesUsers}
use Rattle.kms_policy.proofs.RepeatLaws.{without_repeats-push, length-more}

-- the names are those of the first i texts
pub record IsTaken (texts names : List (List ℕ)) (i : ℕ) : Type 0 where
  pub once : names ≡ without_repeats (take i texts)
  pub good : list_all is_name (take i texts) ≡ true
  pub few : length names ≤ 100

-- one text more without repeats
one_more : (texts names : List (List ℕ)) (i : ℕ) (x : List ℕ) → i < length texts → x ≡ get_or texts i x → names ≡ without_repeats (take i texts) → without_repeats (take (i + 1) texts) ≡ with_name names x
one_more texts names i x h at e =
    rw (take_more texts i x h, ← at, without_repeats-push, ← e) refl

pub IsTaken-more : (texts names new : List (List ℕ)) (i : ℕ) (x : List ℕ) → i < length texts → x ≡ get_or texts i x → IsTaken texts names i → TakesUser names new x → IsTaken texts new (i + 1)
IsTaken-more texts names new i x h at old taken = record {
  once = taken.names ∙ sym (one_more texts names i x h at old.once);
  good = rw (list_all_more is_name texts i x h) (and_from _ _ old.good (subst (λ (w : List ℕ). is_name w ≡ true) at taken.name));
  few = taken.few;
}

pub users_from_taken : (texts names : List (List ℕ)) → IsTaken texts names (length texts) → (names ≡ without_repeats texts) × (are_users texts ≡ true)
users_from_taken texts names taken =
    let whole : take (length texts) texts ≡ texts = take_all (length texts) texts (le_refl _) in
    let once : names ≡ without_repeats texts = subst (λ (w : List (List ℕ)). names ≡ without_repeats w) whole taken.once in
    let good : list_all is_name texts ≡ true = subst (λ (w : List (List ℕ)). list_all is_name w ≡ true) whole taken.good in
    (once, and_from _ _ good (le-leb _ _ (subst (λ (w : List (List ℕ)). length w ≤ 100) once taken.few)))

-- there is room where the names with this one are few
room_from : (names : List (List ℕ)) (x : List ℕ) (there : Bool) → length (if there then names else names ++ x ∷ []) ≤ 100 → (there || nat_lt (length names) 100) ≡ true
room_from names x true few = refl
room_from names x false few = lt-ltb _ _ (omega (arith, few, length-append names (x ∷ [])))

-- where the texts are users, each of them is taken
not_refused : (texts names : List (List ℕ)) (i : ℕ) (x : List ℕ) → i < length texts → x ≡ get_or texts i x → IsTaken texts names i → are_users texts ≡ true → is_taken names x ≡ true
not_refused texts names i x h at taken users =
    let parts : (list_all is_name texts ≡ true) × (nat_le (length (without_repeats texts)) 100 ≡ true) = and_parts _ _ users in
    let here : is_name x ≡ true =
    true_from_ne_false _ (λ e. both_ways _ (list_all_at is_name texts i x h (subst (λ (w : List ℕ). is_name w ≡ false) at e)) parts.0) in
    let more = length-more (take (i + 1) texts) (drop (i + 1) texts) in
    let grown : length (with_name names x) ≤ length (without_repeats texts) =
    rw (one_more texts names i x h at taken.once, take-append-drop (i + 1) texts) at more in
    and_from _ _ here (room_from names x (is_among x names) (le_trans grown (leb-true _ _ parts.1)))

pub users_refused : (texts names : List (List ℕ)) (i : ℕ) (x : List ℕ) → i < length texts → x ≡ get_or texts i x → IsTaken texts names i → is_taken names x ≡ false → are_users texts ≡ false
users_refused texts names i x h at taken off =
    false_from_ne_true _ (λ users. both_ways _ off (not_refused texts names i x h at taken users))

-- a fault at one of the texts is one of all of them
pub RefusesUsers-all : (texts names : List (List ℕ)) (i : ℕ) (x : List ℕ) (fault : CheckFault) → i < length texts → x ≡ get_or texts i x → IsTaken texts names i → RefusesUsers fault (is_taken names x) → RefusesUsers fault (are_users texts)
RefusesUsers-all texts names i x (Refused refusal) h at taken off = (off.0, users_refused texts names i x h at taken off.1)
RefusesUsers-all texts names i x NoMemory h at taken off = tt

-- a text was read as this name
read_as : (text read name : List ℕ) → read ≡ text → Some name ≡ (if is_name read then Some read else None) → (is_name text ≡ true) × (name ≡ text)
read_as text read name at found =
    let parts = cond_some (is_name read) read name (sym found) in
    (subst (λ (w : List ℕ). is_name w ≡ true) at parts.0, sym parts.1 ∙ at)

-- a text that the set hasn't is a name that isn't among the names
pub not_among_unseen : (seen : BTreeSet (Bor (List ℕ))) (old : List (List ℕ)) (text read name : List ℕ) → HasNames seen old → has_text seen text ≡ false → read ≡ text → Some name ≡ (if is_name read then Some read else None) → is_among name old ≡ false
not_among_unseen seen old text read name had unseen at found =
    subst (λ (w : List ℕ). is_among w old ≡ false) (sym (read_as text read name at found).1) (sym (had text) ∙ unseen)

-- a text was read as a name that isn't among the names, and this name was put behind them
pub TakesUser-push : (old new : List (List ℕ)) (text read name : List ℕ) → read ≡ text → Some name ≡ (if is_name read then Some read else None) → is_among name old ≡ false → length old < 100 → new ≡ old ++ name ∷ [] → TakesUser old new text
TakesUser-push old new text read name at found free few pushed =
    let parts = read_as text read name at found in
    let behind : is_among text old ≡ false = subst (λ (w : List ℕ). is_among w old ≡ false) parts.1 free in
    record {
      name = parts.0;
      names = rw behind (pushed ∙ ap (λ (w : List ℕ). old ++ w ∷ []) parts.1);
      few = rw pushed (omega (arith, few, length-append old (name ∷ [])));
    }
