-- The bytes of a commit: what the file stands for at each of them.
use Rattle.std.proofs.Common.{◌≡◌, ◌⊎◌, inl, inr, ℕ, suc, ◌+◌, ◌-◌, ◌≤◌, ◌<◌, List, [], ◌∷◌, ◌++◌, length, get_or, take, drop, refl, sym, ◌∙◌, ap, arith, Bool, true, false, append_assoc, length-append, take-append-drop}
use Rattle.std.specs.Prelude.{Some}
use Rattle.std.specs.Int.{w32, from_be_bytes}
use Rattle.std.proofs.lemmas.List.{take_at, drop_at, take_all, drop_all, drop_more, length-take-le, take-take, append-nil, get_or_at, get_or-append-add, take_more}
use Rattle.std.proofs.lemmas.Bool.{cases_eq}
use Rattle.kms_host.specs.Disk.{put, Torn}
use Rattle.kms_journal.specs.Standing.{Standing, Records, is_set, record_len, record_in, stopped, with_item, records_from, standing, with_framed}
use Rattle.kms_journal.specs.Commit.{IsFramed}
use Rattle.kms_journal.proofs.FileLaws.{clear_0, clear_not, one_left}
use Rattle.kms_journal.proofs.RecordLaws.{one_record, item_is, clear_stops}
use Rattle.kms_journal.proofs.StandingLaws.{extended, file_front}

-- what a file is made of whose last byte is its last commit mark, and clear
pub record Rests (file end : ℕ) (bytes : List ℕ) (s : Standing) : Type 0 where
  pub front : List ℕ
  pub split : bytes ≡ front ++ 0 ∷ []
  pub size : length front ≡ end
  pub stop_is : s.stop ≡ end
  pub whole : s.is_whole ≡ true
  pub again : (tail : List ℕ) → 0 < length tail → standing file (front ++ tail) ≡ Some (extended s (records_from (length tail) s.stop tail))

pub rests : (file end : ℕ) (bytes : List ℕ) (s : Standing) → standing file bytes ≡ Some s → s.is_whole ≡ true → s.stop ≡ end → length bytes ≡ end + 1 → get_or bytes end 0 ≡ 0 → Rests file end bytes s
rests file end bytes s own whole at_end last clear =
    let f = file_front file bytes s own whole in
    let size : length f.front ≡ end = omega (arith, f.stop_is, at_end) in
    let single : length f.back ≡ 1 = omega (arith, size, last, ap length f.split, length-append f.front f.back) in
    let back : f.back ≡ get_or f.back 0 0 ∷ [] = one_left f.back single in
    let split : bytes ≡ f.front ++ get_or f.back 0 0 ∷ [] = f.split ∙ ap (λ (l : List ℕ). f.front ++ l) back in
    let mark : get_or f.back 0 0 ≡ 0 = sym (get_or_at f.front (get_or f.back 0 0) [] 0 end size) ∙ ap (λ (l : List ℕ). get_or l end 0) (sym split) ∙ clear in
    record {
      front = f.front;
      split = split ∙ ap (λ (b : ℕ). f.front ++ b ∷ []) mark;
      size = size;
      stop_is = at_end;
      whole = whole;
      again = f.again;
    }

module _ (file end : ℕ) (framed bytes : List ℕ) (s : Standing) (r : Rests file end bytes s) (framed_ok : IsFramed framed) where
  -- behind the front a commit mark that isn't set changes nothing
  pub keeps : (tail : List ℕ) → 0 < length tail → is_set tail ≡ false → standing file (r.front ++ tail) ≡ Some s
  keeps tail some clear =
      r.again tail some ∙ ap (λ (x : Records). Some (extended s x)) (clear_stops (length tail) s.stop tail clear) ∙ ap Some same
    where
      same : extended s (stopped s.stop true) ≡ s
      same =
          ap (λ (items : List (ℕ × List ℕ)). record s { records = items; is_whole = true }) (append-nil s.records)
          ∙ ap (λ (w : Bool). record s { is_whole = w }) (sym r.whole)

  -- and one that is set before the framed record adds it
  pub adds : standing file (r.front ++ 1 ∷ framed) ≡ Some (with_framed s framed)
  adds =
      let n = record_len (1 ∷ framed) in
      let size = framed_ok.size in
      let k = length framed - 1 in
      let c = 1 ∷ take k framed in
      let last = get_or framed k 0 in
      let k_is : k + 1 ≡ length framed = omega (arith, size) in
      let parts : take k framed ++ last ∷ [] ≡ framed = sym (take_more framed k 0 (omega (arith, k_is))) ∙ take_all (k + 1) framed (omega (arith, k_is)) in
      let whole : c ++ last ∷ [] ≡ 1 ∷ framed = ap (λ (l : List ℕ). 1 ∷ l) parts in
      let c_size : length c ≡ 5 + n = omega (arith, size, k_is, length-take-le k framed (omega (arith, k_is))) in
      let c_len : record_len c ≡ n = ap (from_be_bytes w32) (take-take 4 k framed (omega (arith, size, k_is))) in
      let is_first : is_set c ≡ true = sets (take k framed) (omega (arith, c_size)) in
      let one = one_record c n c_size c_len (length framed) s.stop (last ∷ []) is_first (omega arith) in
      let stops : records_from (length framed) (s.stop + 5 + n) (last ∷ []) ≡ stopped (s.stop + length framed) true =
      clear_stops (length framed) (s.stop + 5 + n) (last ∷ []) refl ∙ ap (λ (p : ℕ). stopped p true) (omega (arith, size)) in
      let item : record_in c ≡ record_in (1 ∷ framed) = sym (item_is c n c_size c_len (last ∷ [])) ∙ ap record_in whole in
      let all : records_from (length (1 ∷ framed)) s.stop (1 ∷ framed) ≡ with_item s.stop (record_in (1 ∷ framed)) (stopped (s.stop + length framed) true) =
      ap (records_from (suc (length framed)) s.stop) (sym whole) ∙ one ∙ ap (with_item s.stop (record_in c)) stops
      ∙ ap (λ (b : List ℕ). with_item s.stop b (stopped (s.stop + length framed) true)) item in
      r.again (1 ∷ framed) (omega arith) ∙ ap (λ (x : Records). Some (extended s x)) all
      ∙ ap (λ (w : Bool). Some (record (with_framed s framed) { is_whole = w })) (sym r.whole)
    where
      sets : (l : List ℕ) → 4 ≤ length l → is_set (1 ∷ l) ≡ true
      sets [] le = absurd (omega arith)
      sets (x ∷ l) le = refl

  -- the first write leaves what the file stands for, however it is torn
  pub torn_frame : (image : List ℕ) (n : ℕ) → Torn (end + 1) n bytes image → standing file image ≡ Some s
  torn_frame image n torn =
      let front : take (end + 1) image ≡ r.front ++ 0 ∷ [] =
      torn.before ∙ ap (take (end + 1)) r.split ∙ take_all (end + 1) (r.front ++ 0 ∷ []) (omega (arith, r.size, length-append r.front (0 ∷ []))) in
      let whole : image ≡ r.front ++ 0 ∷ drop (end + 1) image =
      sym (take-append-drop (end + 1) image) ∙ ap (λ (l : List ℕ). l ++ drop (end + 1) image) front ∙ append_assoc r.front (0 ∷ []) (drop (end + 1) image) in
      ap (standing file) whole ∙ keeps (0 ∷ drop (end + 1) image) (omega arith) (clear_0 (drop (end + 1) image))

  pub framed_bytes : put bytes (end + 1) framed ≡ r.front ++ 0 ∷ framed
  framed_bytes =
      let long : length bytes ≡ end + 1 = ap length r.split ∙ omega (arith, r.size, length-append r.front (0 ∷ [])) in
      ap (λ (l : List ℕ). l ++ framed ++ drop (end + 1 + length framed) bytes) (take_all (end + 1) bytes (omega (arith, long)))
      ∙ ap (λ (l : List ℕ). bytes ++ framed ++ l) (drop_all (end + 1 + length framed) bytes (omega (arith, long)))
      ∙ append-nil (bytes ++ framed)
      ∙ ap (λ (l : List ℕ). l ++ framed) r.split ∙ append_assoc r.front (0 ∷ []) framed

  back_is : drop (end + 1) (r.front ++ 0 ∷ framed) ≡ framed
  back_is = ap (drop (end + 1)) (sym (append_assoc r.front (0 ∷ []) framed)) ∙ drop_at (r.front ++ 0 ∷ []) framed (end + 1) (omega (arith, r.size, length-append r.front (0 ∷ [])))

  -- the second adds the record or doesn't
  pub torn_mark : (image : List ℕ) → Torn end 1 (r.front ++ 0 ∷ framed) image → (standing file image ≡ Some s) ⊎ (standing file image ≡ Some (with_framed s framed))
  torn_mark image torn =
      let mark = get_or image end 0 in
      let long : end < length image = omega (arith, torn.no_shorter, r.size, length-append r.front (0 ∷ framed)) in
      let front : take end image ≡ r.front = torn.before ∙ take_at r.front (0 ∷ framed) end r.size in
      let back : drop end image ≡ mark ∷ framed = drop_more image end 0 long ∙ ap (λ (l : List ℕ). mark ∷ l) (torn.after ∙ back_is) in
      let whole : image ≡ r.front ++ mark ∷ framed =
      sym (take-append-drop end image) ∙ ap (λ (l : List ℕ). l ++ drop end image) front ∙ ap (λ (l : List ℕ). r.front ++ l) back in
      elim (cases_eq mark 1) [
        | inl is ↦ inr (ap (standing file) (whole ∙ ap (λ (b : ℕ). r.front ++ b ∷ framed) is) ∙ adds)
        | inr not ↦ inl (ap (standing file) whole ∙ keeps (mark ∷ framed) (omega arith) (clear_not mark framed not))
      ]

  pub set_bytes : put (r.front ++ 0 ∷ framed) end (1 ∷ []) ≡ r.front ++ 1 ∷ framed
  set_bytes =
      ap (λ (l : List ℕ). l ++ (1 ∷ []) ++ drop (end + 1) (r.front ++ 0 ∷ framed)) (take_at r.front (0 ∷ framed) end r.size)
      ∙ ap (λ (l : List ℕ). r.front ++ (1 ∷ []) ++ l) back_is
      ∙ append_assoc r.front (1 ∷ []) framed

  pub last_clear : get_or (r.front ++ 1 ∷ framed) (end + length framed) 0 ≡ 0
  last_clear =
      let k : length framed ≡ suc (length framed - 1) = omega (arith, framed_ok.size) in
      ap (λ (n : ℕ). get_or (r.front ++ 1 ∷ framed) (n + length framed) 0) (sym r.size)
      ∙ get_or-append-add r.front (1 ∷ framed) (length framed) 0
      ∙ ap (λ (n : ℕ). get_or (1 ∷ framed) n 0) k
      ∙ framed_ok.clear
