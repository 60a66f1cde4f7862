-- What is read as a link is a link, and each link is read.
use Rattle.std.proofs.Common.{◌≡◌, ◌≢◌, ℕ, ◌-◌, List, ◌++◌, length, length-append, take, drop, true, ◌==◌, nat_eq, Option, Some, None, inl, inr, refl, sym, ap, ◌∙◌, arith, ◌<◌, ◌^◌, MatchOption}
use Rattle.std.specs.List.{ends_with}
use Rattle.std.proofs.lemmas.Bool.{cases_Bool}
use Rattle.std.proofs.lemmas.Bool.Decides.{Decides-eqb}
use Rattle.std.proofs.lemmas.List.{take-append-drop, take_at, drop_at}
use Rattle.std.proofs.lemmas.Slice.Eq.{ends_is}
use Rattle.kms_world.specs.declared.id.Id.{Id}
use Rattle.kms_text.specs.declared.link.Kind.{Kind}
use Rattle.kms_text.specs.IdText.{id_text_of, read_id_of}
use Rattle.kms_text.specs.Link.{kind_path, link_of, read_ref_of, IsLink}
use Rattle.kms_text.proofs.IdLemmas.{read_id_of-none}
use Rattle.kms_text.proofs.RoundLemmas.{id_read}

pub read_id_of-length : (text : List ℕ) (id : Id) → read_id_of text ≡ Some id → length text ≡ 36
read_id_of-length text id e =
    elim (cases_Bool (length text == 36)) [
      | inl long ↦ grind arith
      | inr other ↦
          let apart : length text ≢ 36 = grind arith in
          let none : read_id_of text ≡ None = read_id_of-none text apart in
          absurd (let both : None ≡ Some id = sym none ∙ e in cc)
    ]

pub link_parts : (kind : Kind) (text : List ℕ) (id : Id) → read_ref_of kind text ≡ Some id → IsLink kind text id
unfolding read_ref_of
link_parts kind text id e =
    let path = kind_path kind in
    let before = take (length text - 36) text in
    let after = drop (length text - 36) text in
    elim (cases_Bool (ends_with nat_eq before path)) [
      | inl ends ↦
          let split : before ≡ take (length before - length path) before ++ path =
          (ends_is Decides-eqb before path (ends_with nat_eq before path) refl).0 ends in
          record {
            front = take (length before - length path) before;
            tail = after;
            parts = sym (take-append-drop (length text - 36) text) ∙ ap (λ f. f ++ after) split;
            id_is = rw ends at e;
          }
      | inr other ↦ let none : None ≡ Some id = rw other at e in absurd cc
    ]

link_made : (kind : Kind) (front tail : List ℕ) (id : Id) → read_id_of tail ≡ Some id → read_ref_of kind (front ++ kind_path kind ++ tail) ≡ Some id
unfolding read_ref_of
link_made kind front tail id e =
    let path = kind_path kind in
    let before = front ++ path in
    let cut : length (before ++ tail) - 36 ≡ length before =
    omega (arith, length-append before tail, read_id_of-length tail id e) in
    let ends : ends_with nat_eq before path ≡ true = (ends_is Decides-eqb before path (ends_with nat_eq before path) refl).1 front refl in
    rw (cut, take_at before tail (length before) refl, drop_at before tail (length before) refl, ends) e

pub link_read : (kind : Kind) (text : List ℕ) (id : Id) → IsLink kind text id → read_ref_of kind text ≡ Some id
link_read kind text id l = rw l.parts (link_made kind l.front l.tail id l.id_is)

-- the link to an object is read as its id
pub link_of_read : (endpoint : List ℕ) (kind : Kind) (id : Id) → id.0 < 2 ^ 128 → read_ref_of kind (link_of endpoint kind id) ≡ Some id
link_of_read endpoint kind id fits = link_made kind endpoint (id_text_of id) id (id_read id fits)

-- so what is no link has no id
pub link_cases : (kind : Kind) (text : List ℕ) (result : Option Id) → result ≡ read_ref_of kind text
    → MatchOption result ((id : Id) → ¬ IsLink kind text id) (IsLink kind text)
link_cases kind text None e = λ id l. let both : None ≡ Some id = e ∙ link_read kind text id l in absurd cc
link_cases kind text (Some id) e = link_parts kind text id (sym e)
