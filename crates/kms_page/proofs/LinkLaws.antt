-- What stands behind the `?` of a link is read as the same query.
use Rattle.std.proofs.Common.{◌≡◌, ℕ, zero, suc, nat_lt, ◌^◌, ◌<◌, true, not, cond, List, [], ◌∷◌, Option, Some, None, Result, Ok, Err, map, refl, ap, subst, ◌∙◌, arith}
use Rattle.std.specs.Prelude.{codes, decimal, unwrap_or}
use Rattle.std.specs.List.{All, list_all}
use Rattle.std.specs.Option.{option_and_then, is_some}
use Rattle.std.specs.Str.{IsAscii, IsUtf8}
use Rattle.std.proofs.lemmas.Bool.{and_parts, ltb-true}
use Rattle.std.specs.Str.Lossy.{utf8_lossy}
use Rattle.std.proofs.lemmas.Fmt.{IsAscii-decimal}
use Rattle.std.proofs.lemmas.List.Elements.{All-cons, All-head, All-tail, All-filter, All-map, All-weaker}
use Rattle.std.proofs.lemmas.Str.{IsUtf8-from_ascii, utf8_lossy-IsUtf8}
use Rattle.form_urlencoded.specs.Form.{raw_pairs, decode, extend_pairs}
use Rattle.form_urlencoded.proofs.FormLemmas.{IsBytePair, round_trip}
use Rattle.kms_world.specs.SecretKind.{kind_of}
use Rattle.kms_world.specs.declared.refusal.Field.{Field}
use Rattle.kms_world.specs.declared.refusal.Field.TheVariants.{Limit, Offset}
use Rattle.kms_page.specs.declared.listing.Listing.{Listing}
use Rattle.kms_page.specs.declared.listing.Listing.TheVariants.{Secrets, Containers, Consumers, Orders, Quotas}
use Rattle.kms_page.specs.declared.query.Query.{Query}
use Rattle.kms_page.specs.Laws.{at_offset}
use Rattle.kms_page.specs.Link.{query_text}
use Rattle.kms_page.specs.Number.{number_of, limit_of}
use Rattle.kms_page.specs.Parameters.{decoded, parameters_of, value_of}
use Rattle.kms_page.specs.Query.{filters_of, others_of, query_from, query_unless, query_of}
use Rattle.kms_page.specs.Rules.{fault_of, first_fault, or_else}
use Rattle.kms_page.specs.Sorts.{sorts_of}
use Rattle.kms_page.proofs.LookupLaws.{is_other, SameOthers, value_behind, value_of-others, others_of-others, others_keep_rules}
use Rattle.kms_page.proofs.NumberLaws.{number_of-decimal, limit_of-decimal, limit_range}
use Rattle.kms_page.proofs.TextLaws.{IsUtf8-utf8_lossy, bytes_from_utf8}

abbrev IsTextPair : List ℕ × List ℕ → Type 0
IsTextPair p = IsUtf8 p.0 × IsUtf8 p.1

texts_of_parameters : (text : List ℕ) → All IsTextPair (parameters_of text)
texts_of_parameters text =
    All-map IsTextPair (λ (p : List ℕ × List ℕ). (decoded p.0, decoded p.1)) (raw_pairs text)
    (λ k d h. (IsUtf8-utf8_lossy _, IsUtf8-utf8_lossy _))

text_of-decimal : (n : ℕ) → n < 2 ^ 64 → IsUtf8 (decimal n)
text_of-decimal n fits = IsUtf8-from_ascii (decimal n) (IsAscii-decimal n fits)

ascii : (bs : List ℕ) → list_all (λ b. nat_lt b 128) bs ≡ true → IsAscii bs
ascii [] h i = omega arith
ascii (b ∷ bs) h zero = ltb-true b 128 (and_parts _ _ h).0
ascii (b ∷ bs) h (suc i) = ascii bs (and_parts _ _ h).1 i

text_of : (bs : List ℕ) → list_all (λ b. nat_lt b 128) bs ≡ true → IsUtf8 bs
text_of bs h = IsUtf8-from_ascii bs (ascii bs h)

-- texts stay as they are where they are read as UTF-8
abbrev lossy_pair : List ℕ × List ℕ → List ℕ × List ℕ
lossy_pair p = (utf8_lossy p.0, utf8_lossy p.1)

lossy_same : (ps : List (List ℕ × List ℕ)) → All IsTextPair ps → map lossy_pair ps ≡ ps
lossy_same [] texts = refl
lossy_same (p ∷ ps) texts =
    let here = All-head IsTextPair p ps texts in
    λ i. (utf8_lossy-IsUtf8 p.0 here.0 i, utf8_lossy-IsUtf8 p.1 here.1 i) ∷ lossy_same ps (All-tail IsTextPair p ps texts) i

abbrev decoded_pair : List ℕ × List ℕ → List ℕ × List ℕ
decoded_pair p = (decode p.0, decode p.1)

abbrev text_pair : List ℕ × List ℕ → List ℕ × List ℕ
text_pair p = (decoded p.0, decoded p.1)

map_twice : (raw : List (List ℕ × List ℕ)) → map text_pair raw ≡ map lossy_pair (map decoded_pair raw)
map_twice [] = refl
map_twice (p ∷ raw) = ap (λ l. text_pair p ∷ l) (map_twice raw)

-- what is serialized is read again
parameters_again : (ps : List (List ℕ × List ℕ)) → All IsTextPair ps → parameters_of (extend_pairs [] ps) ≡ ps
parameters_again ps texts =
    let bytes : All IsBytePair ps = All-weaker IsTextPair IsBytePair (λ p t. (bytes_from_utf8 p.0 t.0, bytes_from_utf8 p.1 t.1)) ps texts in
    map_twice (raw_pairs (extend_pairs [] ps))
    ∙ ap (map lossy_pair) (round_trip ps bytes)
    ∙ lossy_same ps texts

limit_good : (listing : Listing) (value : List ℕ) (n : ℕ) → limit_of value ≡ Some n → fault_of listing [] (codes "limit", value) ≡ None
limit_good Secrets value n e = ap (λ (o : Option ℕ). cond (not (is_some o)) (Some Limit) None) e
limit_good Containers value n e = ap (λ (o : Option ℕ). cond (not (is_some o)) (Some Limit) None) e
limit_good Consumers value n e = ap (λ (o : Option ℕ). cond (not (is_some o)) (Some Limit) None) e
limit_good Orders value n e = ap (λ (o : Option ℕ). cond (not (is_some o)) (Some Limit) None) e
limit_good Quotas value n e = ap (λ (o : Option ℕ). cond (not (is_some o)) (Some Limit) None) e

offset_good : (listing : Listing) (limit value : List ℕ) (n : ℕ) → number_of value ≡ Some n → fault_of listing ((codes "limit", limit) ∷ []) (codes "offset", value) ≡ None
offset_good Secrets limit value n e = ap (λ (o : Option ℕ). cond (not (is_some o)) (Some Offset) None) e
offset_good Containers limit value n e = ap (λ (o : Option ℕ). cond (not (is_some o)) (Some Offset) None) e
offset_good Consumers limit value n e = ap (λ (o : Option ℕ). cond (not (is_some o)) (Some Offset) None) e
offset_good Orders limit value n e = ap (λ (o : Option ℕ). cond (not (is_some o)) (Some Offset) None) e
offset_good Quotas limit value n e = ap (λ (o : Option ℕ). cond (not (is_some o)) (Some Offset) None) e

-- the limit and the offset in front of the others
abbrev paged : List ℕ → List ℕ → List (List ℕ × List ℕ) → List (List ℕ × List ℕ)
paged limit offset parameters = (codes "limit", limit) ∷ (codes "offset", offset) ∷ others_of parameters

good_again : (listing : Listing) (parameters : List (List ℕ × List ℕ)) (limit offset : List ℕ) (l n : ℕ) → limit_of limit ≡ Some l → number_of offset ≡ Some n
    → first_fault listing [] parameters ≡ None → first_fault listing [] (paged limit offset parameters) ≡ None
good_again listing parameters limit offset l n el en good =
    let same : SameOthers ((codes "limit", limit) ∷ (codes "offset", offset) ∷ []) [] = record {
      at = λ name other. value_behind name (codes "limit", limit) ((codes "offset", offset) ∷ []) other refl ∙ value_behind name (codes "offset", offset) [] other refl;
    } in
    let rest = others_keep_rules listing parameters ((codes "limit", limit) ∷ (codes "offset", offset) ∷ []) [] same good in
    ap (λ f. or_else f (or_else (fault_of listing ((codes "limit", limit) ∷ []) (codes "offset", offset))
    (first_fault listing ((codes "limit", limit) ∷ (codes "offset", offset) ∷ []) (others_of parameters)))) (limit_good listing limit l el)
    ∙ ap (λ f. or_else f (first_fault listing ((codes "limit", limit) ∷ (codes "offset", offset) ∷ []) (others_of parameters))) (offset_good listing limit offset n en)
    ∙ rest

value_again : (name limit offset : List ℕ) (parameters : List (List ℕ × List ℕ)) → is_other name ≡ true → value_of name (paged limit offset parameters) ≡ value_of name parameters
value_again name limit offset parameters other =
    value_behind name (codes "limit", limit) ((codes "offset", offset) ∷ others_of parameters) other refl
    ∙ value_behind name (codes "offset", offset) (others_of parameters) other refl
    ∙ value_of-others name parameters other

filter_again : (listing : Listing) (name limit offset : List ℕ) (parameters : List (List ℕ × List ℕ)) → is_other name ≡ true
    → value_of name (filters_of listing (paged limit offset parameters)) ≡ value_of name (filters_of listing parameters)
filter_again Secrets name limit offset parameters other = value_again name limit offset parameters other
filter_again Containers name limit offset parameters other = refl
filter_again Consumers name limit offset parameters other = refl
filter_again Orders name limit offset parameters other = refl
filter_again Quotas name limit offset parameters other = refl

query_again : (listing : Listing) (parameters : List (List ℕ × List ℕ)) (limit offset : List ℕ) (n : ℕ) → limit_of limit ≡ Some (query_from listing parameters).limit → number_of offset ≡ Some n
    → query_from listing (paged limit offset parameters) ≡ at_offset (query_from listing parameters) n
unfolding query_from
query_again listing parameters limit offset n el en = λ i. record {
  offset = unwrap_or (en i) 0;
  limit = unwrap_or (el i) 10;
  name = filter_again listing (codes "name") limit offset parameters refl i;
  alg = filter_again listing (codes "alg") limit offset parameters refl i;
  bits = option_and_then number_of (filter_again listing (codes "bits") limit offset parameters refl i);
  mode = filter_again listing (codes "mode") limit offset parameters refl i;
  secret_type = option_and_then kind_of (filter_again listing (codes "secret_type") limit offset parameters refl i);
  sort = unwrap_or (option_and_then sorts_of (filter_again listing (codes "sort") limit offset parameters refl i)) [];
  others = others_of-others parameters i;
}

parts : (fault : Option Field) (read query : Query) → query_unless fault read ≡ Ok query → (fault ≡ None) × (read ≡ query)
parts None read query e = (refl, (let same : ◌≡◌ {A = Result Query Field} (Ok read) (Ok query) = e in cc))
parts (Some field) read query e = absurd (let same : ◌≡◌ {A = Result Query Field} (Err field) (Ok query) = e in cc)

again : (listing : Listing) (text : List ℕ) (offset : ℕ) → offset < 2 ^ 32 → first_fault listing [] (parameters_of text) ≡ None
    → query_of listing (query_text (query_from listing (parameters_of text)) offset) ≡ Ok (at_offset (query_from listing (parameters_of text)) offset)
unfolding query_of query_text query_from
again listing text offset fits good =
    let parameters = parameters_of text in
    let query = query_from listing parameters in
    let range = limit_range (value_of (codes "limit") parameters) in
    let el : limit_of (decimal query.limit) ≡ Some query.limit = limit_of-decimal query.limit range.0 range.1 in
    let en = number_of-decimal offset fits in
    let texts = All-cons IsTextPair (codes "limit", decimal query.limit) ((codes "offset", decimal offset) ∷ others_of parameters) (text_of (codes "limit") refl, text_of-decimal query.limit (omega (arith, range.1)))
    (All-cons IsTextPair (codes "offset", decimal offset) (others_of parameters) (text_of (codes "offset") refl, text_of-decimal offset (omega arith))
    (All-filter _ IsTextPair parameters (texts_of_parameters text))) in
    let same = parameters_again (paged (decimal query.limit) (decimal offset) parameters) texts in
    ap (λ ps. query_unless (first_fault listing [] ps) (query_from listing ps)) same
    ∙ ap (λ f. query_unless f (query_from listing (paged (decimal query.limit) (decimal offset) parameters)))
    (good_again listing parameters (decimal query.limit) (decimal offset) query.limit offset el en good)
    ∙ ap Ok (query_again listing parameters (decimal query.limit) (decimal offset) offset el en)

pub link_again : (listing : Listing) (text : List ℕ) (query : Query) (offset : ℕ) → query_of listing text ≡ Ok query → offset < 2 ^ 32
    → query_of listing (query_text query offset) ≡ Ok (at_offset query offset)
unfolding query_of
link_again listing text query offset read fits =
    let p = parts (first_fault listing [] (parameters_of text)) (query_from listing (parameters_of text)) query read in
    subst (λ (q : Query). query_of listing (query_text q offset) ≡ Ok (at_offset q offset)) p.1 (again listing text offset fits p.0)
