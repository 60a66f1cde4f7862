-- Settling adds the record of the staged steps, and then a snapshot may take the place of the records.
use Rattle.std.proofs.Common.{◌≡◌, inl, inr, ℕ, ◌+◌, ◌*◌, ◌^◌, ◌<◌, ◌≤◌, List, [], ◌∷◌, ◌++◌, length, drop, Some, refl, sym, ap, subst, ◌∙◌, arith, length-append, length-drop, take}
use Rattle.std.proofs.Math.Seq.{take-append_seam}
use Rattle.std.specs.Prelude.{Result, Ok, Err, OnOk, None}
use Rattle.std.specs.Int.{w32, to_be_bytes}
use Rattle.kms_host.specs.History.{History}
use Rattle.kms_host.specs.Moment.{Throughout}
use Rattle.kms_host.proofs.Moments.{started, joined, throughout_weaker, at_last}
use Rattle.kms_record.specs.declared.change.Change.{Change}
use Rattle.kms_record.specs.Fields.{u32_bytes}
use Rattle.kms_record.specs.Grammar.{AreSteps, record_bytes}
use Rattle.kms_kept.specs.Kept.{Kept, after_record}
use Rattle.kms_journal.specs.Commit.{IsFramed, frame, IsBeforeOrAfter, Commits}
use Rattle.kms_journal.specs.Cuts.{cuts}
use Rattle.kms_journal.specs.Position.{Position, IsPlaced}
use Rattle.kms_journal.specs.Standing.{Standing, with_framed}
use Rattle.kms_journal.proofs.OpeningLaws.{untouched_keeps}
use Rattle.kms_journal.proofs.RaisedLaws.{raised_by, raised_since}
use Rattle.kms_journal.proofs.ReadingLaws.{untouched}
use Rattle.kms_journal.proofs.RestLaws.{frame_is_framed}
use Rattle.kms_store.specs.Checkpoint.{IsCountOf, IsStill, StandsAt, TurnsOver, checkpoint_syncs}
use Rattle.kms_store.specs.Stands.{KeptOf, HasSteps}
use Rattle.kms_store.specs.Staged.{Staging, Spells, StagingLeads, nothing_staged}
use Rattle.kms_store.specs.Settling.{IsOpened, IsSettledOrAll, Settles, staged_record, committed, settle_syncs}
use Rattle.kms_store.specs.Store.{Stored}
use Rattle.kms_store.proofs.StagedLaws.{nothing_leads}
use Rattle.kms_store.proofs.StandsLaws.{record_leads, record_counts, some_is}

-- the buffer with its head and a clear commit mark is the framed record
pub framed_is : (count : ℕ) (steps closed : List ℕ) → closed ≡ to_be_bytes w32 (length steps + 4) ++ to_be_bytes w32 count ++ steps ++ 0 ∷ [] → closed ≡ frame (u32_bytes count ++ steps)
unfolding u32_bytes
framed_is count steps closed is =
    let size : length steps + 4 ≡ length (to_be_bytes w32 count ++ steps) = omega (arith, length-append (to_be_bytes w32 count) steps) in
    is ∙ ap (λ (n : ℕ). to_be_bytes w32 n ++ (to_be_bytes w32 count ++ steps) ++ 0 ∷ []) size

-- without the commit mark it has the same steps
pub reopened : (n m : ℕ) (old closed opened : List ℕ) → 8 ≤ length old → closed ≡ to_be_bytes w32 n ++ to_be_bytes w32 m ++ drop 8 old ++ 0 ∷ [] → opened ≡ take (length old) closed
    → (length opened ≡ length old) × (drop 8 opened ≡ drop 8 old)
reopened n m old closed opened le is opened_is =
    let head : List ℕ = to_be_bytes w32 n ++ to_be_bytes w32 m ++ drop 8 old in
    let size : length head ≡ length old = omega (arith, length-drop 8 old, le) in
    let same : opened ≡ head = opened_is ∙ ap (take (length old)) is ∙ ap (λ (k : ℕ). take k (head ++ 0 ∷ [])) (sym size) ∙ take-append_seam head (0 ∷ []) in (
      ap length same ∙ size,
      ap (drop 8) same,
    )

pub commits_so : {T E : Type 0} (old new : Position) (given framed : List ℕ) (result : Result T E) (s : Standing) (was now : History) → given ≡ framed → Commits {T = T} {E = E} old new given result s was now
    → Commits {T = T} {E = E} old new framed result s was now
commits_so {T} {E} old new given framed result s was now same commits = subst (λ (f : List ℕ). Commits {T = T} {E = E} old new f result s was now) same commits

none_of : (steps : List (List Change)) → 0 ≡ length steps → (settled kept : Kept) → after_record steps settled ≡ Some kept → kept ≡ settled
none_of [] none settled kept leads = sym (some_is settled kept leads)
none_of (step ∷ steps) none settled kept leads = absurd cc

pub none_leads : (staging : Staging) (settled kept : Kept) → staging.count ≡ 0 → StagingLeads staging settled kept → kept ≡ settled
none_leads staging settled kept none leads = none_of leads.steps (sym none ∙ leads.spells.count) settled kept leads.leads

length-u32 : (n : ℕ) → length (u32_bytes n) ≡ 4
unfolding u32_bytes
length-u32 n = refl

pub few_bytes : (count : ℕ) (steps : List ℕ) → length steps < 2 ^ 27 → length (u32_bytes count ++ steps) < 2 ^ 32
few_bytes count steps short = omega (arith, length-append (u32_bytes count) steps, length-u32 count, short)

pub staged_is_framed : (count : ℕ) (steps framed : List ℕ) → framed ≡ frame (u32_bytes count ++ steps) → length steps < 2 ^ 27 → IsFramed framed
staged_is_framed count steps framed is short = subst IsFramed (sym is) (frame_is_framed (u32_bytes count ++ steps) (few_bytes count steps short))

-- the bytes are those of the record
record_is : (s : Staging) (steps : List (List Change)) → Spells s steps → u32_bytes s.count ++ s.steps ≡ record_bytes steps
record_is s steps spells =
    ap (λ (n : ℕ). u32_bytes n ++ s.steps) spells.count ∙ ap (λ (l : List ℕ). u32_bytes (length steps) ++ l) spells.spelled

-- the journal stands behind the record that it was given
pub moved_so : {T E : Type 0} (result : Result T E) (old new : Position) (given framed : List ℕ) → given ≡ framed → OnOk result (new ≡ (let p : Position = record old { end = old.end + length given; chain = None } in p))
    → OnOk result (new ≡ (let p : Position = record old { end = old.end + length framed; chain = None } in p))
moved_so result old new given framed same moved =
    subst (λ (l : List ℕ). OnOk result (new ≡ (let p : Position = record old { end = old.end + length l; chain = None } in p))) same moved

-- what a store is opened as of which as much is kept and counted, and no step is staged
opened_by : (store new : Stored) (journal : Position) (now : History) (steps : ℕ) → new.kept ≡ store.kept → new.staging ≡ nothing_staged → new.steps ≡ store.steps
    → StandsAt store.kept journal now steps → IsCountOf store.steps steps → IsOpened new journal now store.kept steps
opened_by store new journal now steps kept none many stands counted = record {
  standing = stands.standing;
  placed = stands.placed;
  keeps = stands.keeps;
  counted = stands.counted;
  leads = subst (λ (s : Staging). StagingLeads s store.kept new.kept) (sym none) (subst (StagingLeads nothing_staged store.kept) (sym kept) (nothing_leads store.kept));
  total =
      let nothing : new.staging.count ≡ 0 = ap (λ (s : Staging). s.count) none in
      omega (arith, many, counted, nothing);
}

module _ (store new : Stored) (limit : ℕ) (was : History) (before : Position) (settled : Kept) (steps : ℕ) (o : IsOpened store before was settled steps) where
  abbrev staging : Staging
  staging = store.staging

  abbrev framed : List ℕ
  framed = staged_record staging

  abbrev most : ℕ
  most = settle_syncs limit before staging

  of_generation : before.generation ≡ o.standing.generation
  of_generation = ap (λ (p : Position). p.generation) o.placed.here

  -- with no staged step nothing is called
  pub settles_nothing : {T E : Type 0} (x : T) → staging.count ≡ 0 → new.kept ≡ store.kept → new.staging ≡ nothing_staged → new.steps ≡ store.steps
      → Settles {T = T} {E = E} store new most before before (Ok x) settled steps was was
  settles_nothing x none kept cleared many =
      let same : store.kept ≡ settled = none_leads staging settled store.kept none o.leads in
      let all : steps ≡ steps + staging.count = omega (arith, none) in
      record {
        throughout = started (IsSettledOrAll store before.generation most settled steps was) was (record {
          images = λ quiet image is. inl (record {
            standing = o.standing;
            current = (untouched_keeps was was (untouched was)).images quiet image is ∙ o.placed.current;
            keeps = o.keeps;
            counted = o.counted;
          });
          raised = λ quiet image is.
              raised_by before.generation was was image o.standing ((untouched_keeps was was (untouched was)).images quiet image is ∙ o.placed.current) (omega (arith, of_generation)) (omega (arith, of_generation));
          others = refl;
          syncs = omega arith;
          paid = omega arith;
        });
        done = opened_by store new before was (steps + staging.count) kept cleared many
            (record { standing = o.standing; placed = o.placed; keeps = subst (KeptOf o.standing) (sym same) o.keeps; counted = subst (HasSteps o.standing) all o.counted }) o.total;
        raised = refl;
        quiet = λ quiet. quiet;
      }

  -- The record of the staged steps is added.
  module _ (short : length staging.steps < 2 ^ 27) (some : 1 ≤ staging.count) (few : staging.count < 2 ^ 32) where
    abbrev all : List (List Change)
    all = o.leads.steps

    spells : Spells staging all
    spells = o.leads.spells

    admitted : AreSteps all
    admitted = record { some = omega (arith, some, spells.count); few = omega (arith, few, spells.count); each = spells.admitted }

    fits : length (record_bytes all) < 2 ^ 32
    fits = subst (λ (l : List ℕ). length l < 2 ^ 32) (record_is staging all spells) (few_bytes staging.count staging.steps short)

    framed_record : framed ≡ frame (record_bytes all)
    framed_record = ap frame (record_is staging all spells)

    after : KeptOf (with_framed o.standing framed) store.kept
    after = subst (λ (f : List ℕ). KeptOf (with_framed o.standing f) store.kept) (sym framed_record) (record_leads o.standing settled store.kept all o.keeps admitted fits o.leads.leads)

    counted : HasSteps (with_framed o.standing framed) (steps + staging.count)
    counted =
        let more = record_counts o.standing steps all o.counted admitted fits in
        let many : steps + length all ≡ steps + staging.count = omega (arith, spells.count) in
        subst (λ (f : List ℕ). HasSteps (with_framed o.standing f) (steps + staging.count)) (sym framed_record)
        (subst (HasSteps (with_framed o.standing (frame (record_bytes all)))) many more)

    at_commit : (h : History) → IsBeforeOrAfter o.standing framed was h → IsSettledOrAll store before.generation most settled steps was h
    at_commit h b = record {
      images = λ quiet image is. elim (b.images quiet image is) [
        | inl e ↦ inl (record { standing = o.standing; current = e; keeps = o.keeps; counted = o.counted })
        | inr e ↦ inr (record { standing = with_framed o.standing framed; current = e; keeps = after; counted = counted })
      ];
      raised = λ quiet image is. elim (b.images quiet image is) [
        | inl e ↦ raised_by before.generation was h image o.standing e (omega (arith, of_generation, b.cuts)) (omega (arith, of_generation, b.cuts))
        | inr e ↦ raised_by before.generation was h image (with_framed o.standing framed) e (omega (arith, of_generation, b.cuts)) (omega (arith, of_generation, b.cuts))
      ];
      others = b.others;
      syncs = omega (arith, b.syncs);
      paid = omega (arith, b.syncs, b.cuts);
    }

    during : {T E : Type 0} (position : Position) (result : Result T E) (mid : History) → Commits {T = T} {E = E} before position framed result o.standing was mid
        → Throughout (IsSettledOrAll store before.generation most settled steps was) was mid
    during position result mid k = throughout_weaker (IsBeforeOrAfter o.standing framed was) (IsSettledOrAll store before.generation most settled steps was) was mid at_commit k.throughout

    pub commit_fails : {T E F : Type 0} (position : Position) (e : E) (f : F) (mid : History) → ((s : Standing) → IsPlaced before was s → Commits {T = T} {E = E} before position framed (Err e) s was mid)
        → Settles {T = T} {E = F} store new most before position (Err f) settled steps was mid
    commit_fails {T} position e f mid k = record { throughout = during {T = T} position (Err e) mid (k o.standing o.placed); done = tt; raised = tt; quiet = tt }

    -- and then, maybe, the snapshot takes the place of the records
    module _ {T E : Type 0} (x : T) (between position : Position) (mid now : History) (moved : between ≡ committed before staging) (first : (s : Standing) → IsPlaced before was s → Commits {T = T} {E = E} before between framed (Ok x) s was mid) where
      begun : Commits {T = T} {E = E} before between framed (Ok x) o.standing was mid
      begun = first o.standing o.placed

      last : IsBeforeOrAfter o.standing framed was mid
      last = at_last (IsBeforeOrAfter o.standing framed was) was mid begun.throughout

      same_generation : between.generation ≡ before.generation
      same_generation = ap (λ (p : Position). p.generation) moved

      stands : StandsAt store.kept between mid (steps + staging.count)
      stands = record { standing = with_framed o.standing framed; placed = begun.placed; keeps = after; counted = counted }

      abbrev turn_syncs : ℕ
      turn_syncs = checkpoint_syncs limit between

      at_turn : (h : History) → IsStill store.kept (steps + staging.count) turn_syncs between.generation mid h → IsSettledOrAll store before.generation most settled steps was h
      at_turn h t = record {
        images = λ quiet image is. inr (t.images (begun.quiet quiet) image is);
        raised = λ quiet image is. raised_since before.generation between.generation was mid h image (omega (arith, same_generation, last.cuts)) (t.raised (begun.quiet quiet) image is);
        others = t.others ∙ last.others;
        syncs =
            let same : turn_syncs ≡ checkpoint_syncs limit (committed before staging) = ap (checkpoint_syncs limit) moved in
            omega (arith, last.syncs, t.syncs, same);
        paid = omega (arith, last.syncs, last.cuts, t.paid);
      }

      both : Throughout (IsStill store.kept (steps + staging.count) turn_syncs between.generation mid) mid now → Throughout (IsSettledOrAll store before.generation most settled steps was) was now
      both t =
          joined (IsSettledOrAll store before.generation most settled steps was) was mid now (during {T = T} {E = E} between (Ok x) mid begun)
          (throughout_weaker (IsStill store.kept (steps + staging.count) turn_syncs between.generation mid) (IsSettledOrAll store before.generation most settled steps was) mid now at_turn t)

      -- what the second part says, of so many steps
      abbrev pub TurnClause : {U F : Type 0} → Result U F → Type 0
      TurnClause {U} {F} result = (n : ℕ) → StandsAt store.kept between mid n → IsCountOf store.steps n → TurnsOver {T = U} {E = F} store.kept n turn_syncs between position result mid now

      pub turn_fails : {U F G : Type 0} (e : F) (f : G) → TurnClause {U = U} {F = F} (Err e) → Settles {T = U} {E = G} store new most before position (Err f) settled steps was now
      turn_fails e f k = record { throughout = both (k (steps + staging.count) stands o.total).throughout; done = tt; raised = tt; quiet = tt }

      pub settled_whole : {U F G : Type 0} (y z : U) → new.kept ≡ store.kept → new.staging ≡ nothing_staged → new.steps ≡ store.steps → TurnClause {U = U} {F = F} (Ok y)
          → Settles {T = U} {E = G} store new most before position (Ok z) settled steps was now
      settled_whole y z kept cleared many k =
          let t = k (steps + staging.count) stands o.total in
          record {
            throughout = both t.throughout;
            done = opened_by store new position now (steps + staging.count) kept cleared many t.done o.total;
            raised = omega (arith, t.raised, same_generation, last.cuts);
            quiet = λ quiet. t.quiet (begun.quiet quiet);
          }

-- the same of a store that is seen as another
pub seen : {T E : Type 0} (inside store : Stored) → inside ≡ store → (new : Stored) (limit : ℕ) (before after : Position) (result : Result T E) (was now : History)
    → ((settled : Kept) (steps : ℕ) → IsOpened inside before was settled steps → Settles {T = T} {E = E} inside new (settle_syncs limit before inside.staging) before after result settled steps was now)
    → (settled : Kept) (steps : ℕ) → IsOpened store before was settled steps → Settles {T = T} {E = E} store new (settle_syncs limit before store.staging) before after result settled steps was now
seen {T} {E} inside store same new limit before after result was now settles =
    subst
    (λ (s : Stored). (settled : Kept) (steps : ℕ) → IsOpened s before was settled steps → Settles {T = T} {E = E} s new (settle_syncs limit before s.staging) before after result settled steps was now)
    same settles
