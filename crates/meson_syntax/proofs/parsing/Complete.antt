-- What is spelled as a list, as one thing or as a tail is read so, where expressions one level deeper are.
use Rattle.std.proofs.Common.{◌≡◌, ℕ, suc, zero, ◌<◌, ◌≤◌, Bool, true, false, List, [], ◌∷◌, ◌++◌, Some, refl, sym, ap, ap₂, ◌∙◌, append_assoc, arith}
use Rattle.meson_lex.specs.declared.kinds.Kind.TheVariants as k
use Rattle.meson_lex.specs.declared.kinds.Span.{Span}
use Rattle.meson_syntax.specs.declared.operator.StringKind.{StringKind}
use Rattle.meson_syntax.specs.declared.operator.StringKind.TheVariants as quotes
use Rattle.meson_syntax.specs.declared.operator.Bracket.{Bracket}
use Rattle.meson_syntax.specs.declared.operator.Bracket.TheVariants as bracket
use Rattle.meson_syntax.specs.Operators.{string_kind, boolean_kind, opens, closes}
use Rattle.meson_syntax.specs.Tree.{Expression, identifier, boolean, integer, string, paren, array, dictionary, call, unary, row, postfix, conditional, method, index, Listing, listing, Argument, plain, named, pair, is_named, Arguments, no_arguments, argument, arguments_of, argument_list, Name}
use Rattle.meson_syntax.specs.Grammar.{looseness}
use Rattle.meson_syntax.specs.inside.Input.{Input, kind, next, sees, sees_two, after_kind, expect, left}
use Rattle.meson_syntax.specs.inside.Reading.{room, named_argument, without_name, paired, listed_element, elements_from, listed_elements, listed, identified, truth, number, quoted, parenthesized, primary_by, primary, method_call, indexed, expression}
use Rattle.meson_syntax.specs.Spelling.{One, Then, Deeper, Nothing, SpellsExpression, SpellsTail, SpellsListing, SpellsArguments, SpellsArgument, SaysName}
use Rattle.meson_syntax.proofs.parsing.Steps.{Passes, part, nothing-same, some-injective}
use Rattle.meson_syntax.proofs.parsing.Splits.{bind-is, yes-at, no-at, passes-split, says-read, one-read, yes-sees, not-sees, yes-two, not-two, expect-is, after-is, after-not, covered, falls, name-read, name-text}
use Rattle.meson_syntax.proofs.parsing.NonEmpty.{one-some, argument-some}
use Rattle.meson_syntax.proofs.parsing.Firsts.{binding, Stops, stops-at, closing-stops, starts-closing, first-one, first-listing, first-argument, name-alone}

pub room-is : (d : ℕ) → 0 < d → room d ≡ true
room-is zero h = absurd (omega arith)
room-is (suc d) h = refl

pub list-of-arguments : {S : Type 0} (list : Arguments S) → arguments_of (argument_list list) ≡ list
list-of-arguments no_arguments = refl
list-of-arguments (argument a more) = ap (argument a) (list-of-arguments more)

closing-comma : (b : Bracket) → closes b ≡ k.Comma → ⊥
closing-comma bracket.Round e = absurd cc
closing-comma bracket.Square e = absurd cc
closing-comma bracket.Curly e = absurd cc

closing-colon : (b : Bracket) → closes b ≡ k.Colon → ⊥
closing-colon bracket.Round e = absurd cc
closing-colon bracket.Square e = absurd cc
closing-colon bracket.Curly e = absurd cc

module _ (d : ℕ) (deep : (e : Expression Span) (i j : Input) → Passes (Deeper (SpellsExpression e) d) i j → Stops (kind j) → expression d i ≡ Some (e, j)) where
  -- ---- lists

  without-name-is : (e : Expression Span) (seen : Bool) (i j : Input) → seen ≡ false → Passes (Deeper (SpellsExpression e) d) i j → Stops (kind j)
      → without_name (room d) (expression d) seen i ≡ Some (plain e, j)
  unfolding without_name
  without-name-is e seen i j unseen r stop = no-at seen _ _ i _ unseen (bind-is (expression d i) _ (e, j) _ (deep e i j r stop) refl)

  with-name-is : (s : Span) (x : Name Span) (e : Expression Span) (seen : Bool) (i j : Input) → Passes (SpellsArgument (named s x e) bracket.Round seen d) i j → Stops (kind j)
      → listed_element (room d) (expression d) bracket.Round seen i ≡ Some (named s x e, j)
  unfolding listed_element named_argument
  with-name-is s x e seen i j r stop =
      let P = Deeper (SpellsExpression e) d in
      let a = passes-split (SaysName x) (Then (One k.Colon) P) i j (part _ _ i j r r.fits.2) in
      let b = passes-split (One k.Colon) P a.at j a.second in
      let name = name-read x i a.at a.first in
      let mark = one-read k.Colon a.at b.at b.first in
      let goes : next (next i) ≡ b.at = ap next name.goes ∙ mark.goes in
      let inside : expression d (next (next i)) ≡ Some (e, j) = rw goes (deep e b.at j b.second stop) in
      yes-at (sees_two k.Identifier k.Colon i) _ _ i _ (yes-two k.Identifier k.Colon i name.is (ap kind name.goes ∙ mark.is))
      (bind-is (expression d (next (next i))) _ (e, j) _ inside
      (ap₂ (λ y z. Some (named y z e, j)) (covered s i j r.used r.fits.0 r.took) name.says))

  -- behind an element stands a token with which no expression goes on, and no colon
  complete-element : (a : Argument Span) (b : Bracket) (seen : Bool) (i j : Input) → Passes (SpellsArgument a b seen d) i j → Stops (kind j) → (kind j ≡ Some k.Colon → ⊥)
      → listed_element (room d) (expression d) b seen i ≡ Some (a, j)
  unfolding listed_element named_argument paired
  complete-element (plain e) bracket.Round seen i j r stop colon =
      let spelled : Passes (SpellsExpression e r.fits.2.inner) i j = part _ _ i j r r.fits.2.spelled in
      let unnamed : kind i ≡ Some k.Identifier → kind (next i) ≡ Some k.Colon → ⊥ = λ n c.
      let free : Stops (kind (next i)) = rw c (omega arith) in
      colon (sym (ap kind (name-alone e r.fits.2.inner i j spelled n free)) ∙ c) in
      no-at (sees_two k.Identifier k.Colon i) _ _ i _ (not-two k.Identifier k.Colon i unnamed)
      (without-name-is e seen i j r.fits.1 (part _ _ i j r r.fits.2) stop)
  complete-element (plain e) bracket.Square seen i j r stop colon = without-name-is e seen i j r.fits.1 (part _ _ i j r r.fits.2) stop
  complete-element (plain e) bracket.Curly seen i j r stop colon = let no = r.fits.0 in absurd cc
  complete-element (named s x e) bracket.Round seen i j r stop colon = with-name-is s x e seen i j r stop
  complete-element (named s x e) bracket.Square seen i j r stop colon = let no = r.fits.1 in absurd cc
  complete-element (named s x e) bracket.Curly seen i j r stop colon = let no = r.fits.1 in absurd cc
  complete-element (pair s e f) bracket.Round seen i j r stop colon = let no = r.fits.1 in absurd cc
  complete-element (pair s e f) bracket.Square seen i j r stop colon = let no = r.fits.1 in absurd cc
  complete-element (pair s e f) bracket.Curly seen i j r stop colon =
      let P = Deeper (SpellsExpression e) d in
      let Q = Deeper (SpellsExpression f) d in
      let p = passes-split P (Then (One k.Colon) Q) i j (part _ _ i j r r.fits.2) in
      let q = passes-split (One k.Colon) Q p.at j p.second in
      let mark = one-read k.Colon p.at q.at q.first in
      let free : Stops (kind p.at) = rw mark.is (omega arith) in
      bind-is (expression d i) _ (e, p.at) _ (deep e i p.at p.first free)
      (bind-is (expect k.Colon p.at) _ (tt, q.at) _ (expect-is k.Colon p.at q.at q.first)
      (bind-is (expression d q.at) _ (f, j) _ (deep f q.at j q.second stop)
      (ap (λ y. Some (pair y e f, j)) (covered s i j r.used r.fits.0 r.took))))

  complete-elements_from : (b : Bracket) (n : ℕ) (a : Argument Span) (more : Arguments Span) (tr seen : Bool) (found : List (Argument Span)) (i m j : Input)
      → left i ≤ n → Passes (SpellsArguments (argument a more) tr b seen d) i m → Passes (One (closes b)) m j
      → elements_from (room d) (expression d) b n seen found i ≡ Some ((tr, found ++ a ∷ argument_list more), j)
  unfolding elements_from
  complete-elements_from b zero a more tr seen found i m j fuel r closed =
      let p = passes-split (SpellsArgument a b seen d) _ i m r in
      let less = falls (SpellsArgument a b seen d) i p.at (argument-some a b seen d) p.first in
      absurd (omega arith)
  complete-elements_from b (suc n) a no_arguments true seen found i m j fuel r closed =
      let p = passes-split (SpellsArgument a b seen d) (Then (One k.Comma) Nothing) i m r in
      let q = passes-split (One k.Comma) Nothing p.at m p.second in
      let comma = one-read k.Comma p.at q.at q.first in
      let end = one-read (closes b) m j closed in
      let stop : Stops (kind p.at) = rw comma.is (omega arith) in
      let first = complete-element a b seen i p.at p.first stop (λ c. let both : Some k.Comma ≡ Some k.Colon = sym comma.is ∙ c in absurd cc) in
      let there : after_kind k.Comma p.at ≡ m = after-is k.Comma p.at q.at q.first ∙ nothing-same q.at m q.second in
      bind-is (listed_element (room d) (expression d) b seen i) _ (a, p.at) _ first
      (yes-at (sees k.Comma p.at) _ _ (after_kind k.Comma p.at) _ (yes-sees k.Comma p.at comma.is)
      (rw there (yes-at (sees (closes b) m) _ _ (after_kind (closes b) m) _ (yes-sees (closes b) m end.is)
      (ap (λ x. Some ((true, found ++ a ∷ []), x)) (after-is (closes b) m j closed)))))
  complete-elements_from b (suc n) a no_arguments false seen found i m j fuel r closed =
      let p = passes-split (SpellsArgument a b seen d) (Then Nothing Nothing) i m r in
      let q = passes-split Nothing Nothing p.at m p.second in
      let same : p.at ≡ m = nothing-same p.at q.at q.first ∙ nothing-same q.at m q.second in
      let end = one-read (closes b) m j closed in
      let here : kind p.at ≡ Some (closes b) = ap kind same ∙ end.is in
      let stop : Stops (kind p.at) = rw here (closing-stops b) in
      let first = complete-element a b seen i p.at p.first stop (λ c. closing-colon b (some-injective _ _ (sym here ∙ c))) in
      let not-comma : kind p.at ≡ Some k.Comma → ⊥ = λ c. closing-comma b (some-injective _ _ (sym here ∙ c)) in
      let there : after_kind k.Comma p.at ≡ m = after-not k.Comma p.at not-comma ∙ same in
      bind-is (listed_element (room d) (expression d) b seen i) _ (a, p.at) _ first
      (no-at (sees k.Comma p.at) _ _ (after_kind k.Comma p.at) _ (not-sees k.Comma p.at not-comma)
      (rw there (bind-is (expect (closes b) m) _ (tt, j) _ (expect-is (closes b) m j closed) refl)))
  complete-elements_from b (suc n) a (argument c rest) tr seen found i m j fuel r closed =
      let P = SpellsArguments (argument c rest) tr b (is_named a) d in
      let p = passes-split (SpellsArgument a b seen d) (Then (One k.Comma) P) i m r in
      let q = passes-split (One k.Comma) P p.at m p.second in
      let comma = one-read k.Comma p.at q.at q.first in
      let stop : Stops (kind p.at) = rw comma.is (omega arith) in
      let first = complete-element a b seen i p.at p.first stop (λ c. let both : Some k.Comma ≡ Some k.Colon = sym comma.is ∙ c in absurd cc) in
      let there : after_kind k.Comma p.at ≡ q.at = after-is k.Comma p.at q.at q.first in
      let following = passes-split (SpellsArgument c b (is_named a) d) _ q.at m q.second in
      let not-close : kind q.at ≡ Some (closes b) → ⊥ = starts-closing q.at b (first-argument c b (is_named a) d q.at following.at following.first) in
      let less = falls (SpellsArgument a b seen d) i p.at (argument-some a b seen d) p.first in
      let lesser = falls (One k.Comma) p.at q.at (one-some k.Comma) q.first in
      let more = complete-elements_from b n c rest tr (is_named a) (found ++ a ∷ []) q.at m j (omega arith) q.second closed in
      bind-is (listed_element (room d) (expression d) b seen i) _ (a, p.at) _ first
      (yes-at (sees k.Comma p.at) _ _ (after_kind k.Comma p.at) _ (yes-sees k.Comma p.at comma.is)
      (rw there (no-at (sees (closes b) q.at) _ _ (after_kind (closes b) q.at) _ (not-sees (closes b) q.at not-close)
      (rw (after-not (closes b) q.at not-close)
      (more ∙ ap (λ l. Some ((tr, l), j)) (append_assoc found (a ∷ []) (c ∷ argument_list rest)))))))

  listed-some : (b : Bracket) (s : Span) (tr : Bool) (a : Argument Span) (more : Arguments Span) (i j : Input)
      → Passes (SpellsListing (listing s tr (argument a more)) b d) i j → listed (room d) (expression d) b i ≡ Some (listing s tr (argument a more), j)
  unfolding listed listed_elements
  listed-some b s tr a more i j r =
      let P = SpellsArguments (argument a more) tr b false d in
      let p = passes-split (One (opens b)) (Then P (One (closes b))) i j (part _ _ i j r r.fits.3) in
      let q = passes-split P (One (closes b)) p.at j p.second in
      let there : next i ≡ p.at = (one-read (opens b) i p.at p.first).goes in
      let first = passes-split (SpellsArgument a b false d) _ p.at q.at q.first in
      let not-close : kind p.at ≡ Some (closes b) → ⊥ = starts-closing p.at b (first-argument a b false d p.at first.at first.first) in
      let read = complete-elements_from b (left p.at) a more tr false [] p.at q.at j (omega arith) q.first q.second in
      yes-at (room d) _ _ i _ (room-is d r.fits.1)
      (rw there (no-at (sees (closes b) p.at) _ _ (after_kind (closes b) p.at) _ (not-sees (closes b) p.at not-close)
      (rw (after-not (closes b) p.at not-close)
      (bind-is (elements_from (room d) (expression d) b (left p.at) false [] p.at) _ ((tr, a ∷ argument_list more), j) _ read
      (ap₂ (λ x l. Some (listing x tr l, j)) (covered s i j r.used r.fits.0 r.took) (ap (argument a) (list-of-arguments more)))))))

  listed-none : (b : Bracket) (s : Span) (tr : Bool) (i j : Input)
      → Passes (SpellsListing (listing s tr no_arguments) b d) i j → listed (room d) (expression d) b i ≡ Some (listing s tr no_arguments, j)
  unfolding listed
  listed-none b s tr i j r =
      let p = passes-split (One (opens b)) (Then Nothing (One (closes b))) i j (part _ _ i j r r.fits.3) in
      let q = passes-split Nothing (One (closes b)) p.at j p.second in
      let there : next i ≡ q.at = (one-read (opens b) i p.at p.first).goes ∙ nothing-same p.at q.at q.first in
      let end = one-read (closes b) q.at j q.second in
      yes-at (room d) _ _ i _ (room-is d r.fits.1)
      (rw there (yes-at (sees (closes b) q.at) _ _ (after_kind (closes b) q.at) _ (yes-sees (closes b) q.at end.is)
      (rw (after-is (closes b) q.at j q.second)
      (ap₂ (λ x b. Some (listing x b no_arguments, j)) (covered s i j r.used r.fits.0 r.took) (sym r.fits.2)))))

  pub listed-is : (l : Listing Span) (b : Bracket) (i j : Input) → Passes (SpellsListing l b d) i j → listed (room d) (expression d) b i ≡ Some (l, j)
  listed-is (listing s tr no_arguments) b i j r = listed-none b s tr i j r
  listed-is (listing s tr (argument a more)) b i j r = listed-some b s tr a more i j r

  -- ---- one thing

  boolean-by : (b : Bool) → primary_by (room d) (expression d) (Some (boolean_kind b)) ≡ truth (room d) (expression d) b
  boolean-by true = refl
  boolean-by false = refl

  string-by : (q : StringKind) → primary_by (room d) (expression d) (Some (string_kind q)) ≡ quoted (room d) (expression d) q
  string-by quotes.Plain = refl
  string-by quotes.Multiline = refl
  string-by quotes.Format = refl
  string-by quotes.FormatMultiline = refl

  parenthesized-is : (s : Span) (e : Expression Span) (i j : Input) → Passes (SpellsExpression (paren s e) d) i j → parenthesized (room d) (expression d) i ≡ Some (paren s e, j)
  unfolding parenthesized
  parenthesized-is s e i j r =
      let P = Deeper (SpellsExpression e) d in
      let p = passes-split (One k.OpenRound) (Then P (One k.CloseRound)) i j (part _ _ i j r r.fits.1) in
      let q = passes-split P (One k.CloseRound) p.at j p.second in
      let end = one-read k.CloseRound q.at j q.second in
      let stop : Stops (kind q.at) = rw end.is (omega arith) in
      let less = q.first.fits.less in
      let inside : expression d (next i) ≡ Some (e, q.at) = rw (one-read k.OpenRound i p.at p.first).goes (deep e p.at q.at q.first stop) in
      yes-at (room d) _ _ i _ (room-is d (omega arith))
      (bind-is (expression d (next i)) _ (e, q.at) _ inside
      (bind-is (expect k.CloseRound q.at) _ (tt, j) _ (expect-is k.CloseRound q.at j q.second)
      (ap (λ x. Some (paren x e, j)) (covered s i j r.used r.fits.0 r.took))))

  pub complete-primary : (e : Expression Span) (i j : Input) → looseness e ≤ 0 → Passes (SpellsExpression e d) i j → 0 < binding (kind j) → primary (room d) (expression d) i ≡ Some (e, j)
  unfolding primary identified truth number quoted
  complete-primary (identifier s x) i j h r stop =
      let w = says-read k.Identifier x i j (part _ _ i j r r.fits.1) in
      rw w.is (rw w.goes (no-at (sees k.OpenRound j) _ _ j _ (not-sees k.OpenRound j (stops-at 0 j k.OpenRound stop (omega arith)))
      (ap₂ (λ y z. Some (identifier y z, j)) (covered s i j r.used r.fits.0 r.took) (name-text i ∙ w.says))))
  complete-primary (boolean s b) i j h r stop =
      let w = one-read (boolean_kind b) i j (part _ _ i j r r.fits.1) in
      rw w.is (rw (boolean-by b) (rw w.goes (ap (λ y. Some (boolean y b, j)) (covered s i j r.used r.fits.0 r.took))))
  complete-primary (integer s x) i j h r stop =
      let w = says-read k.Integer x i j (part _ _ i j r r.fits.1) in
      rw w.is (rw w.goes (ap₂ (λ y z. Some (integer y z, j)) (covered s i j r.used r.fits.0 r.took) w.says))
  complete-primary (string s q x) i j h r stop =
      let w = says-read (string_kind q) x i j (part _ _ i j r r.fits.1) in
      rw w.is (rw (string-by q) (rw w.goes (ap₂ (λ y z. Some (string y q z, j)) (covered s i j r.used r.fits.0 r.took) w.says)))
  complete-primary (paren s e) i j h r stop = rw (first-one k.OpenRound _ i j (part _ _ i j r r.fits.1)) (parenthesized-is s e i j r)
  complete-primary (array l) i j h r stop =
      rw (first-listing l bracket.Square d i j r)
      (bind-is (listed (room d) (expression d) bracket.Square i) _ (l, j) _ (listed-is l bracket.Square i j r) refl)
  complete-primary (dictionary l) i j h r stop =
      rw (first-listing l bracket.Curly d i j r)
      (bind-is (listed (room d) (expression d) bracket.Curly i) _ (l, j) _ (listed-is l bracket.Curly i j r) refl)
  complete-primary (call s x l) i j h r stop =
      let p = passes-split (SaysName x) (SpellsListing l bracket.Round d) i j (part _ _ i j r r.fits.1) in
      let w = name-read x i p.at p.first in
      rw w.is (rw w.goes (yes-at (sees k.OpenRound p.at) _ _ p.at _ (yes-sees k.OpenRound p.at (first-listing l bracket.Round d p.at j p.second))
      (bind-is (listed (room d) (expression d) bracket.Round p.at) _ (l, j) _ (listed-is l bracket.Round p.at j p.second)
      (ap₂ (λ y z. Some (call y z l, j)) (covered s i j r.used r.fits.0 r.took) w.says))))
  complete-primary (unary s o e) i j h r stop = absurd (omega arith)
  complete-primary (row s e os) i j h r stop = absurd (omega arith)
  complete-primary (postfix s e ts) i j h r stop = absurd (omega arith)
  complete-primary (conditional s c y n) i j h r stop = absurd (omega arith)

  -- ---- one tail

  pub complete-method : (s : Span) (x : Name Span) (l : Listing Span) (i j : Input) → Passes (SpellsTail (method s x l) d) i j → method_call (room d) (expression d) i ≡ Some (method s x l, j)
  unfolding method_call
  complete-method s x l i j r =
      let p = passes-split (One k.Dot) (Then (SaysName x) (SpellsListing l bracket.Round d)) i j (part _ _ i j r r.fits.1) in
      let q = passes-split (SaysName x) (SpellsListing l bracket.Round d) p.at j p.second in
      let w = name-read x p.at q.at q.first in
      let begins = ap kind w.goes ∙ first-listing l bracket.Round d q.at j q.second in
      rw (one-read k.Dot i p.at p.first).goes
      (yes-at (sees_two k.Identifier k.OpenRound p.at) _ _ p.at _ (yes-two k.Identifier k.OpenRound p.at w.is begins)
      (rw w.goes (bind-is (listed (room d) (expression d) bracket.Round q.at) _ (l, j) _ (listed-is l bracket.Round q.at j q.second)
      (ap₂ (λ y z. Some (method y z l, j)) (covered s i j r.used r.fits.0 r.took) w.says))))

  pub complete-indexed : (s : Span) (e : Expression Span) (i j : Input) → Passes (SpellsTail (index s e) d) i j → indexed (room d) (expression d) i ≡ Some (index s e, j)
  unfolding indexed
  complete-indexed s e i j r =
      let P = Deeper (SpellsExpression e) d in
      let p = passes-split (One k.OpenSquare) (Then P (One k.CloseSquare)) i j (part _ _ i j r r.fits.1) in
      let q = passes-split P (One k.CloseSquare) p.at j p.second in
      let end = one-read k.CloseSquare q.at j q.second in
      let stop : Stops (kind q.at) = rw end.is (omega arith) in
      let less = q.first.fits.less in
      let inside : expression d (next i) ≡ Some (e, q.at) = rw (one-read k.OpenSquare i p.at p.first).goes (deep e p.at q.at q.first stop) in
      yes-at (room d) _ _ i _ (room-is d (omega arith))
      (bind-is (expression d (next i)) _ (e, q.at) _ inside
      (bind-is (expect k.CloseSquare q.at) _ (tt, j) _ (expect-is k.CloseSquare q.at j q.second)
      (ap (λ x. Some (index x e, j)) (covered s i j r.used r.fits.0 r.took))))
