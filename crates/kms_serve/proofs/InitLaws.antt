-- `init`, from call to call.
use Rattle.std.proofs.Common.{◌≡◌, inl, inr, ℕ, ◌+◌, ◌^◌, ◌<◌, List, [], ◌∷◌, ◌++◌, length, Bool, true, false, Some, None, lit<, refl, sym, ◌∙◌, ap, subst, arith, length-append}
use Rattle.std.specs.Prelude.{Option, IfSome, Result, Ok, Err, is_some}
use Rattle.std.proofs.lemmas.List.{nil_from_length}
use Rattle.kms_host.specs.Disk.{Disk, disk, reads, files, at_rest, MayLeave, IsImage}
use Rattle.kms_host.specs.History.{History, then_call, Tells}
use Rattle.kms_host.specs.Moment.{AtEach, Throughout, Since, then_calls}
use Rattle.kms_host.specs.Store.{apart_from_files, others, failed_store_calls, IsAttached}
use Rattle.kms_host.specs.declared.call.Call.{Call}
use Rattle.kms_host.specs.declared.call.Call.TheVariants.{Text, Listened, Came, Attached, Took, Gave, Shut, OnFile, Told, Drew}
use Rattle.kms_host.specs.declared.call.Failed.{Failed}
use Rattle.kms_host.specs.declared.call.NameFault.{NameFault}
use Rattle.kms_host.specs.declared.call.NameFault.TheVariants as names
use Rattle.kms_host.specs.declared.call.Purpose.TheVariants.{Tag}
use Rattle.kms_host.proofs.DiskLaws.{only_image}
use Rattle.kms_host.proofs.Moments.{then_calls-append, then_calls-calls, since_told, since_since, since_weaker, since_call, at_map, at_both, at_more, at_now}
use Rattle.kms_journal.specs.Answers.{Looks}
use Rattle.kms_journal.specs.Create.{Creates, IsCreation, IsNoneOrFresh, fresh, fresh_rest}
use Rattle.kms_journal.specs.Device.{IsQuiet, IsQuietStore, IsUntouched}
use Rattle.kms_journal.specs.Fault.{Fails, is_failed_creation}
use Rattle.kms_journal.specs.Standing.{standing, standing_of, newer}
use Rattle.kms_journal.specs.declared.fault.CreateFault.{CreateFault}
use Rattle.kms_journal.specs.declared.fault.CreateFault.TheVariants as creation
use Rattle.kms_journal.proofs.CreateLaws.{is_there, is_not_there}
use Rattle.kms_core.proofs.StandsLaws.{fresh_stands as fresh_store}
use Rattle.kms_serve.proofs.CrashLaws.{quiet_image}
use Rattle.kms_serve.proofs.StoreCallLaws.{failed-append, none_failed, failed_once, before_each}
use Rattle.kms_serve.specs.StoreCalls.{store_failed, IsUnfailedBefore}
use Rattle.kms_host.proofs.ToldLaws.{tells_both}
use Rattle.kms_serve.specs.Init.{tag_of, DrawsTag, naming_status, creation_status, IsFreshStore, naming, drawing, IsAlone, HasFiles, MayBeOnFile, AreAsBefore, IsNoStore, IsUnderWay, IsInitEnd, Inits}
use Rattle.kms_serve.specs.declared.status.Status.TheVariants as status

-- A fresh store is an empty key manager.
pub fresh_stands : (image : List ℕ × List ℕ) (tag : ℕ) → tag < 2 ^ 60 → standing_of image ≡ Some (fresh tag) → IsFreshStore image tag
fresh_stands image tag low is = (λ masters. fresh_store masters image tag low is, is)

-- Calls over two spans, the later ones first.

apart-append : (x y : List Call) → apart_from_files (x ++ y) ≡ apart_from_files x ++ apart_from_files y
apart-append [] y = refl
apart-append (Text name room bytes ∷ x) y = ap (λ (l : List Call). Text name room bytes ∷ l) (apart-append x y)
apart-append (Listened address done ∷ x) y = ap (λ (l : List Call). Listened address done ∷ l) (apart-append x y)
apart-append (Came line ∷ x) y = ap (λ (l : List Call). Came line ∷ l) (apart-append x y)
apart-append (Attached name done ∷ x) y = ap (λ (l : List Call). Attached name done ∷ l) (apart-append x y)
apart-append (Took l room bytes ∷ x) y = ap (λ (z : List Call). Took l room bytes ∷ z) (apart-append x y)
apart-append (Gave l piece went ∷ x) y = ap (λ (z : List Call). Gave l piece went ∷ z) (apart-append x y)
apart-append (Shut l ∷ x) y = ap (λ (z : List Call). Shut l ∷ z) (apart-append x y)
apart-append (OnFile file c ∷ x) y = apart-append x y
apart-append (Told t ∷ x) y = ap (λ (z : List Call). Told t ∷ z) (apart-append x y)
apart-append (Drew purpose bytes ∷ x) y = ap (λ (z : List Call). Drew purpose bytes ∷ z) (apart-append x y)

none_before : (x y : List Call) → x ++ y ≡ y → x ≡ []
none_before x y e = let long = ap length e in nil_from_length x (omega (arith, long, length-append x y))

-- the calls of a span on files alone
on_files : (mid : History) (y : List Call) → others (then_calls mid y) ≡ others mid → apart_from_files y ≡ []
on_files mid y e =
    none_before (apart_from_files y) (apart_from_files mid.calls) (sym (ap apart_from_files (then_calls-calls mid y) ∙ apart-append y mid.calls) ∙ e)

apart_more : (mid : History) (y x : List Call) → others (then_calls mid y) ≡ others mid → apart_from_files (y ++ x) ≡ apart_from_files x
apart_more mid y x e = apart-append y x ∙ ap (λ (l : List Call). l ++ apart_from_files x) (on_files mid y e)

-- one of them failed
fault_between : (mid : History) (y x : List Call) → Fails true mid (then_calls mid y) → 0 < failed_store_calls (y ++ x)
fault_between mid y x fails =
    let count : failed_store_calls (then_calls mid y).calls ≡ failed_store_calls y + failed_store_calls mid.calls = ap failed_store_calls (then_calls-calls mid y) ∙ failed-append y mid.calls in
    omega (arith, fails.1, count, failed-append y x)

-- none did
faultless_more : (mid : History) (y x : List Call) → Fails false mid (then_calls mid y) → failed_store_calls x ≡ 0 → failed_store_calls (y ++ x) ≡ 0
faultless_more mid y x same before =
    let count : failed_store_calls (then_calls mid y).calls ≡ failed_store_calls y + failed_store_calls mid.calls = ap failed_store_calls (then_calls-calls mid y) ∙ failed-append y mid.calls in
    omega (arith, same, before, count, failed-append y x)

-- What a clause says at each moment.

spanned : {a b : Option History} {R : History → History → Type 0} (Q : History → History → Type 0) → Tells a b R → ((was now : History) → R was now → Throughout (Q was) was now)
    → Since a b (λ was calls. AtEach (λ z. Q was (then_calls was z)) calls × R was (then_calls was calls))
spanned {R = R} Q told all =
    since_told (λ was calls. AtEach (λ z. Q was (then_calls was z)) calls × R was (then_calls was calls)) told
    (λ was now r. let t = all was now r in (t.more, t.extends, (t.each, subst (R was) t.extends r)))

-- The files as they were.

same_files : (was : History) (x : List Call) → AreAsBefore was x → files (then_calls was x) ≡ files was
same_files was x same =
    let now = then_calls was x in
    ap (λ (d : Disk). let y : List ℕ × List ℕ = (d.reads, reads 1 now) in y) (same 0)
    ∙ ap (λ (d : Disk). let y : List ℕ × List ℕ = (reads 0 was, d.reads) in y) (same 1)

still_quiet : (was : History) (x : List Call) → AreAsBefore was x → IsQuietStore was → IsQuietStore (then_calls was x)
still_quiet was x same quiet f low = same f ∙ quiet f low ∙ ap (λ (d : Disk). at_rest d.reads) (sym (same f))

one_image : (f : ℕ) (was h : History) (image : List ℕ) → disk f h ≡ disk f was → disk f was ≡ at_rest (reads f was) → MayLeave (disk f h) image → image ≡ reads f was
one_image f was h image same quiet may = only_image (reads f was) image (subst (λ (d : Disk). MayLeave d image) (same ∙ quiet) may)

same_standing : (was h : History) → ((f : ℕ) → disk f h ≡ disk f was) → IsQuietStore was → (image : List ℕ × List ℕ) → IsImage h image → standing_of image ≡ standing_of (files was)
same_standing was h same quiet image is =
    ap (λ (l : List ℕ). newer (standing 0 l) (standing 1 image.1)) (one_image 0 was h image.0 (same 0) (quiet 0 (lit< tt)) is.file_0)
    ∙ ap (λ (l : List ℕ). newer (standing 0 (reads 0 was)) (standing 1 l)) (one_image 1 was h image.1 (same 1) (quiet 1 (lit< tt)) is.file_1)

-- How far it got, before the store is created.

pub record Reached (store : List ℕ) (apart : List Call) (was : History) (calls : List Call) : Type 0 where
  pub each : AtEach (IsUnderWay store was) calls
  pub apart_is : apart_from_files calls ≡ apart
  pub same : AreAsBefore was calls

-- where files may be called, the newest call may be on one
may_call : (store : List ℕ) (calls : List Call) → HasFiles store (apart_from_files calls) → MayBeOnFile store calls
may_call store [] has = tt
may_call store (Text name room bytes ∷ calls) has = tt
may_call store (Listened address done ∷ calls) has = tt
may_call store (Came line ∷ calls) has = tt
may_call store (Attached name done ∷ calls) has = tt
may_call store (Took line room bytes ∷ calls) has = tt
may_call store (Gave line piece went ∷ calls) has = tt
may_call store (Shut line ∷ calls) has = tt
may_call store (OnFile file c ∷ calls) has = has
may_call store (Told t ∷ calls) has = tt
may_call store (Drew purpose bytes ∷ calls) has = tt

still : (store : List ℕ) (was : History) (calls : List Call) → IsAlone store was (apart_from_files calls) → MayBeOnFile store calls → IsUnfailedBefore calls → AreAsBefore was calls → IsUnderWay store was calls
still store was calls alone on_file unfailed same = record {
  alone = alone;
  on_file = on_file;
  unfailed = unfailed;
  images = λ quiet image is. inl (same_standing was (then_calls was calls) same quiet image is);
  kept = λ s. same;
}

named : (store : List ℕ) (done : Result (Unit {0}) NameFault) (was : History) (calls : List Call) → calls ≡ Attached store done ∷ [] → Reached store (naming store done) was calls
named store done was calls is = subst (Reached store (naming store done) was) (sym is) (record {
  each = (still store was (Attached store done ∷ []) (inr (inl (done, refl))) tt refl (λ f. refl), still store was [] (inl refl) tt refl (λ f. refl));
  apart_is = refl;
  same = λ f. refl;
})

-- the files were read
looked : (store : List ℕ) (apart : List Call) (was : History) (x y : List Call) → IsAlone store was apart → HasFiles store apart → store_failed x ≡ false → IsUnfailedBefore y → Reached store apart was x
    → AtEach (λ z. IsUntouched (then_calls was x) (then_calls (then_calls was x) z)) y → Reached store apart was (y ++ x)
looked store apart was x y alone has sound before r each =
    let mid = then_calls was x in
    let apart_at : (z : List Call) → IsUntouched mid (then_calls mid z) → apart_from_files (z ++ x) ≡ apart = λ z u. apart_more mid z x u.others ∙ r.apart_is in
    let same_at : (z : List Call) → IsUntouched mid (then_calls mid z) → AreAsBefore was (z ++ x) = λ z u f. ap (disk f) (then_calls-append was z x) ∙ u.disk f ∙ r.same f in
    let last : IsUntouched mid (then_calls mid y) = at_now (λ z. IsUntouched mid (then_calls mid z)) y each in
    record {
      each = at_more (IsUnderWay store was) y x r.each
          (at_map (λ z. IsUntouched mid (then_calls mid z) × IsUnfailedBefore (z ++ x)) (λ z. IsUnderWay store was (z ++ x)) y
          (λ z k. still store was (z ++ x) (subst (IsAlone store was) (sym (apart_at z k.0)) alone) (may_call store (z ++ x) (subst (HasFiles store) (sym (apart_at z k.0)) has)) k.1 (same_at z k.0))
          (at_both (λ z. IsUntouched mid (then_calls mid z)) (λ z. IsUnfailedBefore (z ++ x)) y each (before_each y x before sound)));
      apart_is = apart_at y last;
      same = same_at y last;
    }

-- a tag was drawn, or could not be
drew : (store : List ℕ) (bytes : Option (List ℕ)) (was : History) (x : List Call) → IfSome bytes (λ drawn. length drawn ≡ 8) → IsNoStore was → store_failed x ≡ false → Reached store (naming store (Ok tt)) was x
    → Reached store (drawing store bytes) was (Drew Tag bytes ∷ x)
drew store bytes was x eight none sound r =
    let apart : apart_from_files (Drew Tag bytes ∷ x) ≡ drawing store bytes = ap (λ (l : List Call). Drew Tag bytes ∷ l) r.apart_is in
    record { each = (still store was (Drew Tag bytes ∷ x) (inr (inr (none, (bytes, eight, apart)))) tt sound r.same, r.each); apart_is = apart; same = r.same }

-- There is no store, and its tag was drawn.
pub record IsReady (store : List ℕ) (tag : ℕ) (was : History) (calls : List Call) : Type 0 where
  pub none : IsNoStore was
  pub bytes : List ℕ
  pub eight : length bytes ≡ 8
  pub tag_is : tag ≡ tag_of bytes
  pub reached : Reached store (drawing store (Some bytes)) was calls
  pub faultless : failed_store_calls calls ≡ 0

-- while it is created
creating : (store : List ℕ) (tag : ℕ) (was : History) (x : List Call) → tag < 2 ^ 60 → (ready : IsReady store tag was x) → (z : List Call)
    → IsNoneOrFresh tag (then_calls was x) (then_calls (then_calls was x) z) → IsUnfailedBefore (z ++ x) → IsUnderWay store was (z ++ x)
creating store tag was x low ready z n unfailed =
    let mid = then_calls was x in
    let r = ready.reached in
    let apart : apart_from_files (z ++ x) ≡ drawing store (Some ready.bytes) = apart_more mid z x n.others ∙ r.apart_is in
    let before : standing_of (files mid) ≡ standing_of (files was) = ap standing_of (same_files was x r.same) in
    record {
      alone = inr (inr (ready.none, (Some ready.bytes, ready.eight, apart)));
      on_file = may_call store (z ++ x) (inr (ready.bytes, apart));
      unfailed = unfailed;
      images = λ quiet image is. elim (n.images (still_quiet was x r.same quiet) image (subst (λ (h : History). IsImage h image) (then_calls-append was z x) is)) [
        | inl same ↦ inl (same ∙ before)
        | inr made ↦ inr (ready.none, (ready.bytes, ready.eight, apart, subst (IsFreshStore image) ready.tag_is (fresh_stands image tag low made.1)))
      ];
      kept = λ s. let no : None ≡ Some s.0 = sym ready.none ∙ s.1 in cc;
    }

-- What each answer says.

pub not_named : (store : List ℕ) (fault : NameFault) (was : History) (calls : List Call) → calls ≡ Attached store (Err fault) ∷ [] → Inits store (naming_status fault) was calls
not_named store fault was calls is = record { each = (named store (Err fault) was calls is).each; end = by_fault fault calls is; faultless = faultless_by fault calls is }
  where
    faultless_by : (f : NameFault) (l : List Call) → l ≡ Attached store (Err f) ∷ [] → (naming_status f ≡ status.StoreFault → ⊥) → failed_store_calls l ≡ 0
    faultless_by names.Failed l e other = absurd (other refl)
    faultless_by names.NoMemory l e other = ap failed_store_calls e

    by_fault : (f : NameFault) (l : List Call) → l ≡ Attached store (Err f) ∷ [] → IsInitEnd store (naming_status f) was l
    by_fault names.Failed l e = subst (λ (k : List Call). 0 < failed_store_calls k) (sym e) (lit< tt)
    by_fault names.NoMemory l e = e

alone_named : (store : List ℕ) (was : History) → IsAlone store was (naming store (Ok tt))
alone_named store was = inr (inl (Ok tt, refl))

pub not_looked : {a b c : Option History} {E : Type 0} {e : E} (store : List ℕ) → Tells a b (λ was now. now ≡ then_call was (Attached store (Ok tt)))
    → Tells b c (Looks {E = E} (Err e)) → Tells b c (Fails true) → Since a c (Inits store status.StoreFault)
not_looked {E = E} {e = e} store first look fails =
    since_since (Inits store status.StoreFault) (since_call first) (spanned (λ was h. IsUntouched was h) (tells_both look fails) (λ was now l. l.0.throughout))
    (λ was x y is l. record {
      each = (looked store (naming store (Ok tt)) was x y (alone_named store was) (inl refl) (ap store_failed is) (failed_once (then_calls was x) y true l.1.1) (named store (Ok tt) was x is) l.0).each;
      end = fault_between (then_calls was x) y x l.1.1;
      faultless = λ other. absurd (other refl);
    })

-- The files were read, and whether there is a store is known.
pub record IsLooked (found : Bool) (store : List ℕ) (was : History) (calls : List Call) : Type 0 where
  pub reached : Reached store (naming store (Ok tt)) was calls
  pub found_is : found ≡ is_some (standing_of (files was))
  pub faultless : failed_store_calls calls ≡ 0

pub since_looked : {a b c : Option History} {E : Type 0} (found : Bool) (store : List ℕ) → Tells a b (λ was now. now ≡ then_call was (Attached store (Ok tt)))
    → Tells b c (Looks {E = E} (Ok found)) → Tells b c (Fails false) → Since a c (IsLooked found store)
since_looked {E = E} found store first look fails =
    since_since (IsLooked found store) (since_call first) (spanned (λ was h. IsUntouched was h) (tells_both look fails) (λ was now l. l.0.throughout))
    (λ was x y is l.
    let r = named store (Ok tt) was x is in
    record {
      reached = looked store (naming store (Ok tt)) was x y (alone_named store was) (inl refl) (ap store_failed is) (failed_once (then_calls was x) y false l.1.1) r l.0;
      found_is = l.1.0.answer ∙ ap (λ (f : List ℕ × List ℕ). is_some (standing_of f)) (same_files was x r.same);
      faultless = faultless_more (then_calls was x) y x l.1.1 (ap failed_store_calls is);
    })

pub there_is_one : {a c : Option History} (found : Bool) (store : List ℕ) → found ≡ true → Since a c (IsLooked found store) → Since a c (Inits store status.StoreExists)
there_is_one found store is p =
    since_weaker (Inits store status.StoreExists) p
    (λ was calls k. record {
      each = k.reached.each;
      end = (is_there (standing_of (files was)) (sym k.found_is ∙ is), k.reached.apart_is);
      faultless = λ other. k.faultless;
    })

-- no tag could be drawn
pub not_drawn : {a c d : Option History} (found : Bool) (store : List ℕ) → found ≡ false → Since a c (IsLooked found store)
    → Tells c d (DrawsTag (Err record {})) → Since a d (Inits store status.DrawFault)
not_drawn found store is p draw =
    since_since (Inits store status.DrawFault) p (since_call draw)
    (λ was x y k e. subst (λ (z : List Call). Inits store status.DrawFault was (z ++ x)) (sym e)
    (let none = is_not_there (standing_of (files was)) (sym k.found_is ∙ is) in
    let d = drew store None was x tt none (none_failed x k.faultless) k.reached in
    record {
      each = d.each;
      end = record { none = none; failed = d.apart_is; kept = d.same };
      faultless = λ other. k.faultless;
    }))

pub since_drawn : {a c d : Option History} (found : Bool) (store : List ℕ) (tag : ℕ) → found ≡ false → Since a c (IsLooked found store)
    → Tells c d (DrawsTag (Ok tag)) → Since a d (IsReady store tag)
since_drawn found store tag is p draw =
    since_since (IsReady store tag) p
    (since_told (λ was calls. (bytes : List ℕ) × (length bytes ≡ 8) × (tag ≡ tag_of bytes) × (calls ≡ Drew Tag (Some bytes) ∷ [])) draw
    (λ was now d. (Drew Tag (Some d.0) ∷ [], d.3, (d.0, d.1, d.2, refl))))
    (λ was x y k d. subst (λ (z : List Call). IsReady store tag was (z ++ x)) (sym d.3)
    (record {
      none = is_not_there (standing_of (files was)) (sym k.found_is ∙ is);
      bytes = d.0;
      eight = d.1;
      tag_is = d.2;
      reached = drew store (Some d.0) was x d.1 (is_not_there (standing_of (files was)) (sym k.found_is ∙ is)) (none_failed x k.faultless) k.reached;
      faultless = k.faultless;
    }))

-- what its creation answers
creation_ends : (store : List ℕ) (tag : ℕ) (was : History) (x y : List Call) (result : Result (Unit {0}) CreateFault) → tag < 2 ^ 60 → (ready : IsReady store tag was x)
    → IsCreation tag result (then_calls was x) (then_calls (then_calls was x) y) → others (then_calls (then_calls was x) y) ≡ others (then_calls was x)
    → Fails (is_failed_creation result) (then_calls was x) (then_calls (then_calls was x) y) → IsInitEnd store (creation_status result) was (y ++ x)
creation_ends store tag was x y (Ok done) low ready made alone fails =
    let r = ready.reached in
    let now : then_calls was (y ++ x) ≡ then_calls (then_calls was x) y = then_calls-append was y x in
    let quiet_now : IsQuietStore was → IsQuietStore (then_calls was (y ++ x)) = λ quiet. subst IsQuietStore (sym now) (made.3 (still_quiet was x r.same quiet)) in
    record {
      none = ready.none;
      bytes = ready.bytes;
      eight = ready.eight;
      drawn = apart_more (then_calls was x) y x alone ∙ r.apart_is;
      fresh = subst (λ (h : History). IsFreshStore (files h) (tag_of ready.bytes)) (sym now)
          (subst (IsFreshStore (files (then_calls (then_calls was x) y))) ready.tag_is (fresh_stands _ tag low made.1.current));
      whole = ap (reads 0) now ∙ made.2 ∙ ap (λ (n : ℕ). 1 ∷ fresh_rest n) ready.tag_is;
      quiet = quiet_now;
      rests = subst (IsQuiet 0) (sym now) made.4;
      images = λ quiet image is.
          subst (IsFreshStore image) ready.tag_is
          (fresh_stands image tag low (quiet_image (then_calls was (y ++ x)) image (quiet_now quiet) is ∙ ap (λ (h : History). standing_of (files h)) now ∙ made.1.current));
    }
creation_ends store tag was x y (Err creation.Exists) low ready made alone fails =
    let no : None ≡ Some made.0 = sym (ap standing_of (same_files was x ready.reached.same) ∙ ready.none) ∙ made.1 in cc
creation_ends store tag was x y (Err creation.StoreFault) low ready made alone fails = fault_between (then_calls was x) y x fails
creation_ends store tag was x y (Err creation.NoMemory) low ready made alone fails = absurd made

creation_faultless : (result : Result (Unit {0}) CreateFault) (mid : History) (y x : List Call) → Fails (is_failed_creation result) mid (then_calls mid y) → failed_store_calls x ≡ 0
    → (creation_status result ≡ status.StoreFault → ⊥) → failed_store_calls (y ++ x) ≡ 0
creation_faultless (Ok done) mid y x same before other = faultless_more mid y x same before
creation_faultless (Err creation.Exists) mid y x same before other = faultless_more mid y x same before
creation_faultless (Err creation.StoreFault) mid y x fails before other = absurd (other refl)
creation_faultless (Err creation.NoMemory) mid y x same before other = faultless_more mid y x same before

pub since_created : {a d e : Option History} (store : List ℕ) (tag : ℕ) (result : Result (Unit {0}) CreateFault) → tag < 2 ^ 60 → Since a d (IsReady store tag)
    → Tells d e (Creates tag result) → Tells d e (Fails (is_failed_creation result)) → Since a e (Inits store (creation_status result))
since_created store tag result low ready create fails =
    since_since (Inits store (creation_status result)) ready (spanned (λ was h. IsNoneOrFresh tag was h) (tells_both create fails) (λ was now l. l.0.throughout))
    (λ was x y r l.
    let mid = then_calls was x in
    record {
      each = at_more (IsUnderWay store was) y x r.reached.each
          (at_map (λ z. IsNoneOrFresh tag mid (then_calls mid z) × IsUnfailedBefore (z ++ x)) (λ z. IsUnderWay store was (z ++ x)) y (λ z k. creating store tag was x low r z k.0 k.1)
          (at_both (λ z. IsNoneOrFresh tag mid (then_calls mid z)) (λ z. IsUnfailedBefore (z ++ x)) y l.0
          (before_each y x (failed_once mid y (is_failed_creation result) l.1.1) (none_failed x r.faultless))));
      end = creation_ends store tag was x y result low r l.1.0.answer (at_now (λ z. IsNoneOrFresh tag mid (then_calls mid z)) y l.0).others l.1.1;
      faultless = creation_faultless result mid y x l.1.1 r.faultless;
    })

-- the store stays named
pub attached_drawn : (result : Result ℕ Failed) (was now : History) → IsAttached was → DrawsTag result was now → IsAttached now
attached_drawn (Ok tag) was now a d = subst IsAttached (sym d.3) (record { done = a.done })
attached_drawn (Err e) was now a d = subst IsAttached (sym d) (record { done = a.done })
