-- What is given, call by call.
use Rattle.std.proofs.Common.{Bool, Err, IsErr, List, None, Ok, Option, Result, Some, [], ap, append_assoc, cond, drop, eq-eqb, false, length, nat_eq, refl, subst, sym, take, true, ℕ, ◌++◌, ◌<◌, ◌∙◌, ◌∷◌, ◌≡◌}
use Rattle.std.proofs.lemmas.List.{append-nil, take-append-drop}
use Rattle.std.proofs.lemmas.Result.{IfOk-from_err}
use Rattle.std.specs.Prelude.{OnErr}
use Rattle.kms_host.specs.History.{History, then_call}
use Rattle.kms_host.specs.Line.{IsOpen, OnlyGives, failed_on, sent, taken}
use Rattle.kms_host.specs.declared.call.Call.{Call}
use Rattle.kms_host.specs.declared.call.Call.TheVariants.{Attached, Came, Drew, Gave, Listened, OnFile, Shut, Text, Told, Took}
use Rattle.kms_serve.specs.Ends.{EndsFailed}
use Rattle.kms_serve.specs.Owed.{Gives, OnlyLeft}
use Rattle.kms_serve.specs.Owing.{on_line}

-- what was given and what is left are the bytes
pub record Giving (line : ℕ) (bytes rest : List ℕ) (calls : List Call) : Type 0 where
  pub only : OnlyLeft line bytes calls
  pub left : bytes ≡ sent line calls ++ rest
  pub sound : failed_on line calls ≡ false

pub giving_none : (line : ℕ) (bytes : List ℕ) → Giving line bytes bytes []
giving_none line bytes = record { only = tt; left = refl; sound = refl }

pub giving_more : (line n : ℕ) (bytes rest : List ℕ) (calls : List Call) → 0 < length rest → Giving line bytes rest calls
    → Giving line bytes (drop n rest) (Gave line rest (Some n) ∷ calls)
giving_more line n bytes rest calls some g =
    let same : nat_eq line line ≡ true = eq-eqb line line refl in
    let whole : (sent line calls ++ take n rest) ++ drop n rest ≡ sent line calls ++ rest =
    append_assoc (sent line calls) (take n rest) (drop n rest) ∙ ap (λ x. sent line calls ++ x) (take-append-drop n rest) in
    record {
      only = (record { of_line = refl; some = some; left = g.left; sound = g.sound }, g.only);
      left = rw same (g.left ∙ sym whole);
      sound = g.sound;
    }

on_err : {T E : Type 0} (P : Type 0) (r : Result T E) → P → OnErr r P
on_err P (Ok x) p = tt
on_err P (Err e) p = p

pub giving_failed : {E : Type 0} (line : ℕ) (bytes rest : List ℕ) (r : Result (Unit {0}) E) → IsErr r → 0 < length rest → (calls : List Call)
    → Giving line bytes rest calls → Gives line bytes r (Gave line rest None ∷ calls)
giving_failed line bytes rest r e some calls g = record {
  only = (record { of_line = refl; some = some; left = g.left; sound = g.sound }, g.only);
  whole = IfOk-from_err r _ e;
  failed = on_err (line ≡ line) r refl;
}

pub giving_done : {E : Type 0} (line : ℕ) (bytes rest : List ℕ) → rest ≡ [] → (calls : List Call) → Giving line bytes rest calls
    → (let r : Result (Unit {0}) E = Ok tt in Gives line bytes r calls)
giving_done line bytes rest e calls g =
    let all : bytes ≡ sent line calls = g.left ∙ ap (λ x. sent line calls ++ x) e ∙ append-nil (sent line calls) in
    record { only = g.only; whole = (sym all, g.sound); failed = tt }

pub only_gives : (line : ℕ) (bytes : List ℕ) (calls : List Call) → OnlyLeft line bytes calls → OnlyGives line calls
only_gives line bytes [] h = tt
only_gives line bytes (Took l room taken ∷ calls) h = absurd h
only_gives line bytes (Gave l piece went ∷ calls) h = (h.0.of_line, only_gives line bytes calls h.1)
only_gives line bytes (Shut l ∷ calls) h = absurd h
only_gives line bytes (Text name room text ∷ calls) h = absurd h
only_gives line bytes (Listened address done ∷ calls) h = absurd h
only_gives line bytes (Came next ∷ calls) h = absurd h
only_gives line bytes (Attached name done ∷ calls) h = absurd h
only_gives line bytes (OnFile file c ∷ calls) h = absurd h
only_gives line bytes (Told t ∷ calls) h = absurd h
only_gives line bytes (Drew purpose random ∷ calls) h = absurd h

-- at each moment what went and what didn't are the bytes
pub left_rest : (line : ℕ) (bytes : List ℕ) (calls : List Call) → OnlyLeft line bytes calls → (rest : List ℕ) × (bytes ≡ sent line calls ++ rest)
left_rest line bytes [] h = (bytes, refl)
left_rest line bytes (Took l room taken ∷ calls) h = absurd h
left_rest line bytes (Gave l piece (Some n) ∷ calls) h =
    let same : nat_eq l line ≡ true = eq-eqb l line h.0.of_line in
    let whole : (sent line calls ++ take n piece) ++ drop n piece ≡ sent line calls ++ piece =
    append_assoc (sent line calls) (take n piece) (drop n piece) ∙ ap (λ x. sent line calls ++ x) (take-append-drop n piece) in
    (drop n piece, rw same (h.0.left ∙ sym whole))
left_rest line bytes (Gave l piece None ∷ calls) h = (piece, h.0.left)
left_rest line bytes (Shut l ∷ calls) h = absurd h
left_rest line bytes (Text name room text ∷ calls) h = absurd h
left_rest line bytes (Listened address done ∷ calls) h = absurd h
left_rest line bytes (Came next ∷ calls) h = absurd h
left_rest line bytes (Attached name done ∷ calls) h = absurd h
left_rest line bytes (OnFile file c ∷ calls) h = absurd h
left_rest line bytes (Told t ∷ calls) h = absurd h
left_rest line bytes (Drew purpose random ∷ calls) h = absurd h

-- what line 0 is given, as each line sees it
both_on : (b : Bool) (x y : List ℕ) → cond b (cond b x [] ++ y) (cond b x []) ≡ cond b (x ++ y) []
both_on true x y = refl
both_on false x y = refl

pub on_line-append : (now line : ℕ) (x y : List ℕ) → on_line now line (x ++ y) ≡ on_line now line x ++ on_line now line y
on_line-append now line x y = split (nat_eq now line) x y
  where
    split : (b : Bool) (x y : List ℕ) → cond b (x ++ y) [] ≡ cond b x [] ++ cond b y []
    split true x y = refl
    split false x y = refl

pub on_line-nil : (now line : ℕ) → on_line now line [] ≡ []
on_line-nil now line = split (nat_eq now line)
  where
    split : (b : Bool) → (let none : List ℕ = [] in cond b none none ≡ none)
    split true = refl
    split false = refl

pub sent_on : (line : ℕ) (gives : List Call) → OnlyGives 0 gives → sent line gives ≡ on_line 0 line (sent 0 gives)
sent_on line [] h = sym (on_line-nil 0 line)
sent_on line (Took l room bytes ∷ gives) h = absurd h
sent_on line (Gave l piece (Some n) ∷ gives) h =
    let before : sent line gives ≡ on_line 0 line (sent 0 gives) = sent_on line gives h.1 in
    rw (h.0, before) (both_on (nat_eq 0 line) (sent 0 gives) (take n piece))
sent_on line (Gave l piece None ∷ gives) h = sent_on line gives h.1
sent_on line (Shut l ∷ gives) h = absurd h
sent_on line (Text name room bytes ∷ gives) h = absurd h
sent_on line (Listened address done ∷ gives) h = absurd h
sent_on line (Came next ∷ gives) h = absurd h
sent_on line (Attached name done ∷ gives) h = absurd h
sent_on line (OnFile file c ∷ gives) h = absurd h
sent_on line (Told t ∷ gives) h = absurd h
sent_on line (Drew purpose bytes ∷ gives) h = absurd h

-- the last call of these failed
pub fails-append : (line : ℕ) (late early : List Call) → EndsFailed line late → EndsFailed line (late ++ early)
fails-append line [] early h = absurd h
fails-append line (Took l room (Some bytes) ∷ late) early h = absurd h
fails-append line (Took l room None ∷ late) early h = h
fails-append line (Gave l piece (Some n) ∷ late) early h = absurd h
fails-append line (Gave l piece None ∷ late) early h = h
fails-append line (Shut l ∷ late) early h = absurd h
fails-append line (Text name room bytes ∷ late) early h = absurd h
fails-append line (Listened address done ∷ late) early h = absurd h
fails-append line (Came next ∷ late) early h = absurd h
fails-append line (Attached name done ∷ late) early h = absurd h
fails-append line (OnFile file c ∷ late) early h = absurd h
fails-append line (Told t ∷ late) early h = absurd h
fails-append line (Drew purpose bytes ∷ late) early h = absurd h

-- giving leaves the line open
pub open_gave : (line l : ℕ) (piece : List ℕ) (was now : History) (went : Option ℕ) → now ≡ then_call was (Gave l piece went) → IsOpen line was → IsOpen line now
open_gave line l piece was now went is was_open = subst (IsOpen line) (sym is) (record { came = was_open.came; not_shut = was_open.not_shut })
