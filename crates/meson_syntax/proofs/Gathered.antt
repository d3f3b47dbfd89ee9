-- What is gathered from the items of a source is its located tokens.
use Rattle.std.proofs.Common.{◌≡◌, ℕ, zero, suc, ◌+◌, ◌≤◌, List, [], ◌∷◌, ◌++◌, length, Result, Ok, Err, refl, sym, ap, ◌∙◌, subst, append_assoc, arith}
use Rattle.std.proofs.lemmas.List.{append-nil, length-append}
use Rattle.std.specs.Prelude.{pred}
use Rattle.meson_lex.specs.declared.kinds.Item.{Item}
use Rattle.meson_lex.specs.declared.fault.LexFault.{LexFault}
use Rattle.meson_lex.specs.Items.{Lexeme, joined}
use Rattle.meson_lex.specs.Faults.{HasItemsThenFault}
use Rattle.meson_lex.specs.Lexed.{with_spans, IsLexed, Tiles}
use Rattle.meson_lex.specs.Significant.{Role, Gap, Ends, Opens, Closes, Other, role, State, step, step_by, after}
use Rattle.meson_lex.specs.Located.{Token, spot_by, end_by, spots, end_after, located}
use Rattle.meson_syntax.specs.View.{text_at}
use Rattle.meson_syntax.specs.inside.Gathering.{GatheredTokens, no_tokens, spot_for, end_for, gathered_with, gathered_tokens, IsFaulty, AreTokens}
use Rattle.meson_syntax.proofs.Slices.{slice_range-part}

pred-below : (n : ℕ) → pred n ≤ suc n
pred-below zero = omega arith
pred-below (suc n) = omega arith

-- an item opens one bracket at most
depth_by : (r : Role) (s : State) → (step_by r s).depth ≤ suc s.depth
depth_by Gap s = omega arith
depth_by Ends s = omega arith
depth_by Opens s = omega arith
depth_by Closes s = pred-below s.depth
depth_by Other s = omega arith

pub stepped_depth : (g : GatheredTokens) (x : Item) → (gathered_with g x).state.depth ≤ suc g.state.depth
unfolding gathered_with
stepped_depth g x = depth_by (role x.kind) g.state

-- the item of a lexeme that begins at `at`
abbrev item_at : ℕ → Lexeme → Item
item_at at x = record { kind = x.kind; span = record { from = at; to = at + length x.text } }

spot_is : (r : Role) (g : GatheredTokens) (x : Lexeme) (at : ℕ) → text_at g.source (item_at at x).span ≡ x.text → spot_for r g (item_at at x) ≡ spot_by r g.state x g.end at
spot_is Gap g x at e = refl
spot_is Ends g x at e = refl
spot_is Opens g x at e = ap (λ t. record { kind = x.kind; text = t; from = at; to = at + length x.text } ∷ []) e
spot_is Closes g x at e = ap (λ t. record { kind = x.kind; text = t; from = at; to = at + length x.text } ∷ []) e
spot_is Other g x at e = ap (λ t. record { kind = x.kind; text = t; from = at; to = at + length x.text } ∷ []) e

end_is : (r : Role) (g : GatheredTokens) (x : Lexeme) (at : ℕ) → end_for r g (item_at at x) ≡ end_by r x g.end at
end_is Gap g x at = refl
end_is Ends g x at = refl
end_is Opens g x at = refl
end_is Closes g x at = refl
end_is Other g x at = refl

-- with the tokens of items from `at` on
abbrev advanced : GatheredTokens → ℕ → List Lexeme → GatheredTokens
advanced g at xs = record { source = g.source; tokens = g.tokens ++ spots g.state g.end at xs; state = after g.state xs; end = end_after g.end at xs }

abbrev stepped_by : GatheredTokens → List Token → ℕ → Role → GatheredTokens
stepped_by g more end r = record { source = g.source; tokens = g.tokens ++ more; state = step_by r g.state; end = end }

stepped_is : (g : GatheredTokens) (x : Lexeme) (at : ℕ) → text_at g.source (item_at at x).span ≡ x.text
    → gathered_with g (item_at at x) ≡ stepped_by g (spot_by (role x.kind) g.state x g.end at) (end_by (role x.kind) x g.end at) (role x.kind)
unfolding gathered_with
stepped_is g x at e =
    ap (λ m. stepped_by g m (end_for (role x.kind) g (item_at at x)) (role x.kind)) (spot_is (role x.kind) g x at e)
    ∙ ap (λ n. stepped_by g (spot_by (role x.kind) g.state x g.end at) n (role x.kind)) (end_is (role x.kind) g x at)

advanced_is : (g : GatheredTokens) (x : Lexeme) (xs : List Lexeme) (at : ℕ)
    → advanced (stepped_by g (spot_by (role x.kind) g.state x g.end at) (end_by (role x.kind) x g.end at) (role x.kind)) (at + length x.text) xs ≡ advanced g at (x ∷ xs)
advanced_is g x xs at =
    ap (λ ts. record { source = g.source; tokens = ts; state = after (step g.state x) xs; end = end_after (end_by (role x.kind) x g.end at) (at + length x.text) xs })
    (append_assoc g.tokens (spot_by (role x.kind) g.state x g.end at) (spots (step g.state x) (end_by (role x.kind) x g.end at) (at + length x.text) xs))

gathered_placed : (xs : List Lexeme) (front rest : List ℕ) (at : ℕ) (tail : List (Result Item LexFault)) (g : GatheredTokens)
    → g.source ≡ front ++ (joined xs ++ rest) → length front ≡ at → gathered_tokens g (with_spans at xs ++ tail) ≡ gathered_tokens (advanced g at xs) tail
gathered_placed [] front rest at tail g joins here =
    ap (λ ts. gathered_tokens (record { source = g.source; tokens = ts; state = g.state; end = g.end }) tail) (sym (append-nil g.tokens))
gathered_placed (x ∷ xs) front rest at tail g joins here =
    let split : g.source ≡ front ++ (x.text ++ (joined xs ++ rest)) = joins ∙ ap (λ l. front ++ l) (append_assoc x.text (joined xs) rest) in
    let text : text_at g.source (item_at at x).span ≡ x.text = slice_range-part g.source front x.text (joined xs ++ rest) at (at + length x.text) split here refl in
    let one = stepped_by g (spot_by (role x.kind) g.state x g.end at) (end_by (role x.kind) x g.end at) (role x.kind) in
    ap (λ h. gathered_tokens h (with_spans (at + length x.text) xs ++ tail)) (stepped_is g x at text)
    ∙ gathered_placed xs (front ++ x.text) rest (at + length x.text) tail one (split ∙ sym (append_assoc front x.text (joined xs ++ rest))) (length-append front x.text ∙ ap (λ n. n + length x.text) here)
    ∙ ap (λ h. gathered_tokens h tail) (advanced_is g x xs at)

ok_same : (a b : List Token) (r : Result (List Token) LexFault) → r ≡ Ok a → r ≡ Ok b → a ≡ b
ok_same a b r e f = cc

err_same : (a b : LexFault) (r : Result (List Token) LexFault) → r ≡ Err a → r ≡ Err b → a ≡ b
err_same a b r e f = cc

-- a source without fault
pub whole_from : (source : List ℕ) (results : List (Result Item LexFault)) (ts : List Token) → IsLexed 0 source results → gathered_tokens (no_tokens source) results ≡ Ok ts → AreTokens source ts
whole_from source results ts (IsLexed.whole xs list are) e =
    let joins : source ≡ [] ++ (joined xs ++ []) = sym list.joins ∙ sym (append-nil (joined xs)) in
    let all = ap (gathered_tokens (no_tokens source)) (are ∙ sym (append-nil (with_spans 0 xs))) ∙ gathered_placed xs [] [] 0 [] (no_tokens source) joins refl in
    record { items = xs; are_items = list; are_located = ok_same ts (located xs) (gathered_tokens (no_tokens source) results) e all }
whole_from source results ts (IsLexed.faulty xs rest fault has are) e =
    let all = ap (gathered_tokens (no_tokens source)) are ∙ gathered_placed xs [] rest 0 (Err fault ∷ []) (no_tokens source) (sym has.joins) refl in
    absurd cc

-- a source with a fault
pub faulty_from : (source : List ℕ) (results : List (Result Item LexFault)) (fault : LexFault) → IsLexed 0 source results → gathered_tokens (no_tokens source) results ≡ Err fault → IsFaulty source fault
faulty_from source results fault (IsLexed.whole xs list are) e =
    let joins : source ≡ [] ++ (joined xs ++ []) = sym list.joins ∙ sym (append-nil (joined xs)) in
    let all = ap (gathered_tokens (no_tokens source)) (are ∙ sym (append-nil (with_spans 0 xs))) ∙ gathered_placed xs [] [] 0 [] (no_tokens source) joins refl in
    absurd cc
faulty_from source results fault (IsLexed.faulty xs rest found has are) e =
    let all = ap (gathered_tokens (no_tokens source)) are ∙ gathered_placed xs [] rest 0 (Err found ∷ []) (no_tokens source) (sym has.joins) refl in
    let same : found ≡ fault = err_same found fault (gathered_tokens (no_tokens source) results) all e in
    record { items = xs; rest = rest; has = subst (HasItemsThenFault 0 source xs rest) same has }

-- ---- a turn of the loop over the lexer's results

abbrev pub Within : ℕ → List (Result Item LexFault) → GatheredTokens → Type 0
Within end results g = (at : ℕ) × Tiles at end results × (g.state.depth ≤ at)

within_item : (end : ℕ) (x : Item) (more : List (Result Item LexFault)) (g : GatheredTokens) → Within end (Ok x ∷ more) g → Within end more (gathered_with g x)
within_item end x more g w =
    let tiles = w.1 in
    let least = w.2 in
    let below = stepped_depth g x in
    let grows = tiles.1 in
    (x.span.to, tiles.3, omega arith)

pub within_step : (end : ℕ) (x : Item) (results more : List (Result Item LexFault)) (g h : GatheredTokens) → results ≡ Ok x ∷ more → h ≡ gathered_with g x → Within end results g → Within end more h
within_step end x results more g h are is w =
    subst (Within end more) (sym is) (within_item end x more g (subst (λ rs. Within end rs g) are w))

pub folded_step : (x : Item) (results more : List (Result Item LexFault)) (g h : GatheredTokens) → results ≡ Ok x ∷ more → h ≡ gathered_with g x → gathered_tokens g results ≡ gathered_tokens h more
folded_step x results more g h are is = ap (gathered_tokens g) are ∙ ap (λ k. gathered_tokens k more) (sym is)

pub stepped_source : (g h : GatheredTokens) (x : Item) (source : List ℕ) → h ≡ gathered_with g x → g.source ≡ source → h.source ≡ source
unfolding gathered_with
stepped_source g h x source is e = ap (λ k. k.source) is ∙ e
