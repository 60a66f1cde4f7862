-- What a host in memory keeps of a file stays sound.
use Rattle.std.proofs.Common.{◌≡◌, ◌⊎◌, inl, inr, ℕ, ◌+◌, ◌≤◌, ◌<◌, ◌^◌, max, List, [], ◌∷◌, length, take, get_or, Bool, true, cond, nat_lt, refl, sym, subst, ◌∙◌, ap, arith}
use Rattle.std.specs.Prelude.{◌&&◌, ◌||◌, nat_le, Result, Ok, Err, IfOk}
use Rattle.std.proofs.lemmas.List.{length-take}
use Rattle.kms_host.specs.Disk.{Disk, put, after_write, after_cut, IsOutside, MayLeave}
use Rattle.kms_host.specs.File.{IsSound, IsPicked, is_outside}
use Rattle.kms_host.specs.declared.call.Pick.TheVariants.{Torn}
use Rattle.kms_host.proofs.DiskLaws.{write_reads, write_keeps, cut_reads, cut_keeps, length-put}

-- a write that was begun, and one that was done
pub sound_begun : (d : Disk) (at : ℕ) (piece : List ℕ) → IsSound d → IsSound (after_write d at piece d.reads)
sound_begun d at piece is = record {
  kept = write_keeps d at piece d.reads d.reads is.kept;
  not_shorter = is.not_shorter;
  not_longer = omega (arith, is.not_longer);
  short = is.short;
}

pub sound_written : (d : Disk) (at : ℕ) (piece : List ℕ) → at ≤ length d.reads → at + length piece < 2 ^ 62 → IsSound d → IsSound (after_write d at piece (put d.reads at piece))
sound_written d at piece le short is = record {
  kept = write_reads d at piece (put d.reads at piece) le is.kept;
  not_shorter = is.not_shorter;
  not_longer = omega (arith, is.not_longer);
  short = omega (arith, length-put d.reads at piece le, is.short, short);
}

-- a cut that was begun, and one that was done
pub sound_cut_begun : (d : Disk) (size : ℕ) → IsSound d → IsSound (after_cut d size d.reads)
sound_cut_begun d size is = record {
  kept = cut_keeps d size d.reads d.reads is.kept;
  not_shorter = omega (arith, is.not_shorter);
  not_longer = is.not_longer;
  short = is.short;
}

pub sound_cut : (d : Disk) (size : ℕ) → size ≤ length d.reads → IsSound d → IsSound (after_cut d size (take size d.reads))
sound_cut d size le is = record {
  kept = cut_reads d size (take size d.reads) le is.kept;
  not_shorter = omega (arith, is.not_shorter);
  not_longer = is.not_longer;
  short = omega (arith, length-take size d.reads, is.short);
}

-- the file as its fields have it, where the write was begun and left it reading so
sound_fields : (d : Disk) (at : ℕ) (piece reads now : List ℕ) (ranges : List (ℕ × ℕ)) (longest : ℕ) → now ≡ reads → ranges ≡ (at, at + length piece) ∷ d.ranges
    → longest ≡ max d.longest (at + length piece) → IsSound (after_write d at piece reads)
    → IsSound (record { reads = now; base = d.base; ranges = ranges; shortest = d.shortest; longest = longest })
sound_fields d at piece reads now ranges longest is more most s = rw (is, more, most) s

pub sound_done : (d : Disk) (at : ℕ) (piece now : List ℕ) (ranges : List (ℕ × ℕ)) (longest : ℕ) → now ≡ put d.reads at piece → ranges ≡ (at, at + length piece) ∷ d.ranges
    → longest ≡ max d.longest (at + length piece) → at ≤ length d.reads → at + length piece < 2 ^ 62 → IsSound d
    → IsSound (record { reads = now; base = d.base; ranges = ranges; shortest = d.shortest; longest = longest })
sound_done d at piece now ranges longest is more most le short s = sound_fields d at piece _ now ranges longest is more most (sound_written d at piece le short s)

pub sound_not : (d : Disk) (at : ℕ) (piece now : List ℕ) (ranges : List (ℕ × ℕ)) (longest : ℕ) → now ≡ d.reads → ranges ≡ (at, at + length piece) ∷ d.ranges
    → longest ≡ max d.longest (at + length piece) → IsSound d
    → IsSound (record { reads = now; base = d.base; ranges = ranges; shortest = d.shortest; longest = longest })
sound_not d at piece now ranges longest is more most s = sound_fields d at piece _ now ranges longest is more most (sound_begun d at piece s)

-- what is picked is an image
outside : (k : ℕ) (ranges : List (ℕ × ℕ)) → IsOutside k ranges → is_outside k ranges ≡ true
outside k [] out = refl
outside k (range ∷ ranges) out = both (apart k range out.0) (outside k ranges out.1)
  where
    both : {a b : Bool} → a ≡ true → b ≡ true → (a && b) ≡ true
    both is also = rw (is, also) refl

    apart : (n : ℕ) (r : ℕ × ℕ) → ((n < r.0) ⊎ (r.1 ≤ n)) → (nat_lt n r.0 || nat_le r.1 n) ≡ true
    apart n r (inl below) = grind (arith, below)
    apart n r (inr above) = grind (arith, above)

pub picked_torn : (value : ℕ) (d : Disk) (image : List ℕ) → IsSound d → IsPicked (Torn value) d image → MayLeave d image
picked_torn value d image s p = record {
  no_shorter = omega (arith, p.0, s.not_shorter, s.not_longer);
  no_longer = omega (arith, p.0);
  stays = λ k lt lt' out.
      let within : nat_lt k (length d.base) ≡ true = grind (arith, lt') in
      p.1 k lt ∙ ap (λ (b : Bool). cond (b && is_outside k d.ranges) (get_or d.base k 0) value) within ∙ ap (λ (b : Bool). cond b (get_or d.base k 0) value) (outside k d.ranges out);
}

pub picked_lost : (d : Disk) (image : List ℕ) → IsSound d → image ≡ d.base → MayLeave d image
picked_lost d image s is = rw is (record { no_shorter = s.not_shorter; no_longer = s.not_longer; stays = λ k lt lt' out. refl })

pub image_ok : {E : Type 0} (d : Disk) (bytes torn : List ℕ) (result : Result (List ℕ) E) → IfOk result (λ b. b ≡ bytes) → bytes ≡ torn → MayLeave d torn → IfOk result (MayLeave d)
image_ok d bytes torn (Ok b) is same may = subst (MayLeave d) (sym (is ∙ same)) may
image_ok d bytes torn (Err e) is same may = tt
