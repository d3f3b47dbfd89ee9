-- What an iterator gives are items of the source, each at its span.
use Rattle.std.proofs.Common.{◌≡◌, ℕ, suc, ◌+◌, ◌-◌, Bool, true, false, ◌&&◌, cond, List, [], ◌∷◌, ◌++◌, length, take, drop, slice_range, Option, Some, None, option_map, Result, Err, IfOk, sym, refl, ap, ◌∙◌, subst, arith, append_assoc, length-append}
use Rattle.std.specs.List.{AllByRecursion}
use Rattle.std.proofs.lemmas.Bool.{cond-false, and_left}
use Rattle.std.proofs.lemmas.List.{take_at, drop_at, append-nil}
use Rattle.meson_lex.specs.declared.kinds.Item.{Item}
use Rattle.meson_lex.specs.declared.fault.LexFault.{LexFault}
use Rattle.meson_lex.specs.Bytes.{begins_bare_return, first_bare_return}
use Rattle.meson_lex.specs.Items.{Lexeme, joined, IsItem, AreItems}
use Rattle.meson_lex.specs.Lexed.{with_spans, IsLexed, whole, faulty, StandsIn}

abbrev AllStand : List ℕ → List (Result Item LexFault) → Type 0
AllStand source results = AllByRecursion (λ r. IfOk r (StandsIn source)) results

all_append : (source : List ℕ) (rs qs : List (Result Item LexFault)) → AllStand source rs → AllStand source qs → AllStand source (rs ++ qs)
all_append source [] qs h g = g
all_append source (r ∷ rs) qs h g = (h.0, all_append source rs qs h.1 g)

-- behind the bytes before them
placed_stand : (source front : List ℕ) (offset : ℕ) (xs : List Lexeme) (rest : List ℕ) → length front ≡ offset → front ++ (joined xs ++ rest) ≡ source → AreItems xs rest → AllStand source (with_spans offset xs)
placed_stand source front offset [] rest at joins each = tt
placed_stand source front offset (x ∷ xs) rest at joins each =
    let behind : front ++ (x.text ++ (joined xs ++ rest)) ≡ source = ap (λ l. front ++ l) (sym (append_assoc x.text (joined xs) rest)) ∙ joins in
    let further : (front ++ x.text) ++ (joined xs ++ rest) ≡ source = append_assoc front x.text (joined xs ++ rest) ∙ behind in
    let len : length (front ++ x.text) ≡ offset + length x.text = length-append front x.text ∙ ap (λ n. n + length x.text) at in
    let count : length x.text ≡ offset + length x.text - offset = omega arith in
    let text : slice_range source offset (offset + length x.text) ≡ x.text =
    ap (λ l. take (offset + length x.text - offset) (drop offset l)) (sym behind) ∙ ap (take (offset + length x.text - offset)) (drop_at front (x.text ++ (joined xs ++ rest)) offset at) ∙ take_at x.text (joined xs ++ rest) _ count in
    let follows : drop (offset + length x.text) source ≡ joined xs ++ rest = ap (drop (offset + length x.text)) (sym further) ∙ drop_at (front ++ x.text) (joined xs ++ rest) _ len in
    let P : List ℕ → List ℕ → Type 0 = λ t r. IsItem (record { kind = x.kind; text = t }) r in (
      subst (λ t. P t (drop (offset + length x.text) source)) (sym text) (subst (P x.text) (sym follows) each.0),
      placed_stand source (front ++ x.text) (offset + length x.text) xs rest len further each.1,
    )

pub lexed_stand : (source : List ℕ) (results : List (Result Item LexFault)) → IsLexed 0 source results → AllByRecursion (λ r. IfOk r (StandsIn source)) results
lexed_stand source results (whole xs list is) =
    subst (AllStand source) (sym is) (placed_stand source [] 0 xs [] refl (append-nil (joined xs) ∙ list.joins) list.each)
lexed_stand source results (faulty xs rest fault has is) =
    subst (AllStand source) (sym is) (all_append source (with_spans 0 xs) (Err fault ∷ []) (placed_stand source [] 0 xs rest refl has.joins has.each) (tt, tt))

-- ---- no bare CR in an item is no bare CR in the text

-- what begins with no bare CR, with more behind it
begins_longer : (x : ℕ) (xs ys : List ℕ) → begins_bare_return (x ∷ xs) ≡ false → begins_bare_return (x ∷ (xs ++ ys)) ≡ false
begins_longer x [] ys none = and_left _ _ (alone _ none)
  where
    alone : (t : Bool) → (t && true) ≡ false → t ≡ false
    alone true h = h
    alone false h = refl
begins_longer x (c ∷ cs) ys none = none

pub none_parts : (t : Bool) (o : Option ℕ) → cond t (Some 0) (option_map suc o) ≡ None → (t ≡ false) × (o ≡ None)
none_parts true o h = absurd (cc)
none_parts false None h = (refl, refl)
none_parts false (Some k) h = absurd (cc)

none_append : (xs ys : List ℕ) → first_bare_return xs ≡ None → first_bare_return ys ≡ None → first_bare_return (xs ++ ys) ≡ None
none_append [] ys h g = g
none_append (x ∷ xs) ys h g =
    let parts = none_parts (begins_bare_return (x ∷ xs)) (first_bare_return xs) h in
    cond-false (begins_bare_return (x ∷ (xs ++ ys))) _ _ (begins_longer x xs ys parts.0) ∙ ap (option_map suc) (none_append xs ys parts.1 g)

pub list_returns : (xs : List Lexeme) (rest : List ℕ) → AreItems xs rest → first_bare_return (joined xs) ≡ None
list_returns [] rest each = refl
list_returns (x ∷ xs) rest each = none_append x.text (joined xs) each.0.1 (list_returns xs rest each.1)
