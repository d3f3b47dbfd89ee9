-- The tokens of an expression's children, and another child among them.
use Rattle.meson_edit.proofs.Words.{◌≡◌, ℕ, ◌+◌, ◌<◌, ◌≤◌, Bool, false, List, [], ◌∷◌, ◌++◌, map, refl, sym, ap, subst, ◌∙◌, append_assoc, arith, append-nil}
use Rattle.meson_edit.proofs.Words.{Token, words, Span, mark, comma_words, operator_words, expression_words, operands_words, tail_words, tails_words}
use Rattle.meson_edit.proofs.Words.{argument_words, arguments_words, looseness, row_level, HasOperand, HasTail, Flagged, operands_depth, tail_depth}
use Rattle.meson_edit.proofs.Words.{tails_depth, listing_depth, argument_depth, arguments_depth, operator_kind, operator_rest, unary_kind, opens, closes}
use Rattle.meson_edit.proofs.Words.{of_expression, argument_children, arguments_children, listing_children, operands_children, tail_children, tails_children}
use Rattle.meson_edit.proofs.Words.{expression_children, Comma, SpellsExpression, SpellsOperands, SpellsTail, SpellsTails, SpellsListing, SpellsArguments}
use Rattle.meson_edit.proofs.Words.{SpellsArgument, Expression, identifier, boolean, integer, string, paren, array, dictionary, call, unary, row, postfix}
use Rattle.meson_edit.proofs.Words.{conditional, Operands, no_operands, operand, Tail, method, index, Tails, no_tails, tail, Listing, listing, Argument, plain}
use Rattle.meson_edit.proofs.Words.{named, pair, is_named, Arguments, no_arguments, argument, Bracket, opens-drops, closes-drops, unary-drops, operator-drops}
use Rattle.meson_edit.proofs.Words.{rest-drops, name-words, one-words, each-words, then-words, comma-words, expression-words, operands-words, tail-words}
use Rattle.meson_edit.proofs.Words.{tails-words, argument-words, arguments-words, Every, every-append, join-words}
use Rattle.meson_lex.specs.declared.kinds.Kind.TheVariants as k
use Rattle.meson_syntax.specs.declared.operator.Bracket.TheVariants as bracket
use Rattle.meson_syntax.proofs.parsing.WithinExpressions.{both}
use Rattle.meson_edit.proofs.places.SameEnds.{cover}
use Rattle.meson_edit.proofs.places.Joined.{next, regrouped, alone, next-last, next-third, next-inner, deeper}
use Rattle.meson_edit.proofs.places.Inside.{SpellsOther, InHole, part-holes, last-part, whole-part, holds}

-- ---- lists cut into parts

tail_group : {A : Type 0} (a b c d : List A) → a ++ (b ++ (c ++ d)) ≡ (a ++ (b ++ c)) ++ d
tail_group a b c d = simp append_assoc

-- the last of three, and the second of three
pub third-of : (ts a m b c : List Token) → ts ≡ a ++ m → m ≡ b ++ c → ts ≡ (a ++ b) ++ (c ++ [])
third-of ts a m b c e f = last-part ts (a ++ b) c (e ∙ ap (λ x. a ++ x) f ∙ sym (append_assoc a b c))

pub second-of : (ts a m b c : List Token) → ts ≡ a ++ m → m ≡ b ++ c → ts ≡ a ++ (b ++ c)
second-of ts a m b c e f = e ∙ ap (λ x. a ++ x) f

-- ---- what another thing in the place of one keeps, where there is room for it

abbrev OtherArgument : Argument Span → Bracket → Bool → ℕ → Argument Span → List Token → Type 0
OtherArgument a b seen d z ts = argument_depth z < d → (is_named z ≡ is_named a) × SpellsArgument z b seen d ts

record LikeArguments (list z : Arguments Span) : Type 0 where
  comma : (trailing : Bool) (ts : List Token) → Comma list trailing ts → Comma z trailing ts
  flag : (trailing : Bool) → Flagged trailing list → Flagged trailing z

abbrev OtherArguments : Arguments Span → Bool → Bracket → Bool → ℕ → Arguments Span → List Token → Type 0
OtherArguments list trailing b seen d z ts = arguments_depth z < d → LikeArguments list z × SpellsArguments z trailing b seen d ts

abbrev pub OtherListing : Bracket → ℕ → Listing Span → List Token → Type 0
OtherListing b d z ts = listing_depth z ≤ d → SpellsListing z b d ts

abbrev OtherOperands : Operands Span → ℕ → ℕ → Operands Span → List Token → Type 0
OtherOperands os n d z ts = operands_depth z ≤ d → HasOperand z × (row_level z ≡ row_level os) × SpellsOperands z n d ts

abbrev OtherTail : ℕ → Tail Span → List Token → Type 0
OtherTail d z ts = tail_depth z ≤ d → SpellsTail z d ts

abbrev OtherTails : ℕ → Tails Span → List Token → Type 0
OtherTails d z ts = tails_depth z ≤ d → HasTail z × SpellsTails z d ts

abbrev OtherExpression : Expression Span → ℕ → Expression Span → List Token → Type 0
OtherExpression e d = SpellsOther of_expression e d 0

-- ---- lists

argument-inside : (a : Argument Span) (b : Bracket) (seen : Bool) (d : ℕ) (ts : List Token) → SpellsArgument a b seen d ts
    → Every (InHole (Argument Span) (OtherArgument a b seen d) ts) (argument_children a)
argument-inside (plain e) b seen d ts h =
    let w = h.2 in (
      holds e [] [] w.inner ts [] ts [] (whole-part ts) refl refl w.spelled
          (λ y new ends sp room. let z = sp (omega (arith, room, w.less)) in (refl, (h.0, h.1, deeper w _ (alone (SpellsExpression y w.inner) new z.1)))),
      tt,
    )
argument-inside (named s x e) b seen d ts h =
    let p = h.2 in
    let q = p.second in
    let w = q.second in
    let parts = third-of ts p.front p.back q.front q.back p.joined q.joined in (
      holds e _ [] w.inner ts (p.front ++ q.front) q.back [] parts
          (join-words p.front q.front ((k.Identifier, x.text) ∷ []) (mark k.Colon) (name-words x p.front p.first) (one-words k.Colon q.front (λ y. refl) q.first))
          refl w.spelled
          (λ y new ends sp room.
          let z = sp (omega (arith, room, w.less)) in
          (refl, (cover _ new ends s ts _ [] parts h.0, h.1, next-third p.front q.front new p.first q.first (deeper w new z.1)))),
      tt,
    )
argument-inside (pair s e f) b seen d ts h =
    let p = h.2 in
    let q = p.second in
    let v = p.first in
    let w = q.second in
    let colon = one-words k.Colon q.front (λ y. refl) q.first in
    let key = expression-words e v.inner p.front v.spelled in
    let value = expression-words f w.inner q.back w.spelled in
    let parts = third-of ts p.front p.back q.front q.back p.joined q.joined in (
      holds e [] _ v.inner ts [] p.front p.back p.joined refl (then-words _ _ p.back _ _ q colon value) v.spelled
          (λ y new ends sp room.
          let z = sp (omega (arith, room, v.less)) in
          (refl, (cover _ new ends s ts [] p.back p.joined h.0, h.1, next new p.back (deeper v new z.1) q))),
      (
        holds f _ [] w.inner ts (p.front ++ q.front) q.back [] parts (join-words p.front q.front (expression_words e) (mark k.Colon) key colon) refl w.spelled
            (λ y new ends sp room.
            let z = sp (omega (arith, room, w.less)) in
            (refl, (cover _ new ends s ts _ [] parts h.0, h.1, next-third p.front q.front new v q.first (deeper w new z.1)))),
        tt,
      ),
    )

arguments-inside : (list : Arguments Span) (trailing : Bool) (b : Bracket) (seen : Bool) (d : ℕ) (ts : List Token) → SpellsArguments list trailing b seen d ts
    → Every (InHole (Arguments Span) (OtherArguments list trailing b seen d) ts) (arguments_children list trailing)
arguments-inside no_arguments trailing b seen d ts h = tt
arguments-inside (argument a more) trailing b seen d ts h =
    let q = h.second in
    let comma = comma-words more trailing q.front q.first in
    let here = argument-words a b seen d h.front h.first in
    let rest = arguments-words more trailing b (is_named a) d q.back q.second in
    every-append (InHole (Arguments Span) (OtherArguments (argument a more) trailing b seen d) ts) _ _
    (part-holes (OtherArgument a b seen d) _ [] (comma_words more trailing ++ arguments_words more trailing) (λ x. argument x more) ts [] h.front h.back h.joined
    refl (then-words _ _ h.back _ _ q comma rest)
    (λ z new ends sp room.
    let w = sp (omega (arith, room)) in
    let others = subst (λ t. SpellsArguments more trailing b t d q.back) (sym w.0) q.second in
    (record { comma = λ t us c. c; flag = λ t g. tt }, next new h.back w.1 (both q q.first others)))
    (argument_children a) (argument-inside a b seen d h.front h.first))
    (part-holes (OtherArguments more trailing b (is_named a) d) _ (argument_words a ++ comma_words more trailing) [] (argument a)
    ts (h.front ++ q.front) q.back [] (third-of ts h.front h.back q.front q.back h.joined q.joined)
    (join-words h.front q.front (argument_words a) (comma_words more trailing) here comma) refl
    (λ z new ends sp room.
    let w = sp (omega (arith, room)) in
    (record { comma = λ t us c. c; flag = λ t g. tt }, next-third h.front q.front new h.first (w.0.comma trailing q.front q.first) w.1))
    (arguments_children more trailing) (arguments-inside more trailing b (is_named a) d q.back q.second))

pub listing-inside : (l : Listing Span) (b : Bracket) (d : ℕ) (ts : List Token) → SpellsListing l b d ts
    → Every (InHole (Listing Span) (OtherListing b d) ts) (listing_children l b)
listing-inside (listing s trailing list) b d ts h =
    let p = h.3 in
    let q = p.second in
    let parts = second-of ts p.front p.back q.front q.back p.joined q.joined in
    part-holes (OtherArguments list trailing b false d) _ (mark (opens b)) (mark (closes b)) (listing s trailing) ts p.front q.front q.back parts
    (one-words (opens b) p.front (opens-drops b) p.first) (one-words (closes b) q.back (closes-drops b) q.second)
    (λ z new ends sp room.
    let w = sp room in
    (cover _ new ends s ts p.front q.back parts h.0, h.1, w.0.flag trailing h.2, next p.front (new ++ q.back) p.first (next new q.back w.1 q.second)))
    (arguments_children list trailing) (arguments-inside list trailing b false d q.front q.first)

-- ---- operands and tails

operands-inside : (os : Operands Span) (n d : ℕ) (ts : List Token) → SpellsOperands os n d ts
    → Every (InHole (Operands Span) (OtherOperands os n d) ts) (operands_children os)
operands-inside no_operands n d ts h = tt
operands-inside (operand o e more) n d ts h =
    let p = h.2 in
    let q = p.second in
    let r = q.second in
    let sign : words (p.front ++ q.front) ≡ operator_words o =
    join-words p.front q.front (mark (operator_kind o)) (map (λ κ. (κ, [])) (operator_rest o)) (one-words (operator_kind o) p.front (operator-drops o) p.first) (each-words (operator_rest o) q.front (rest-drops o) q.first) in
    let apart : ts ≡ (p.front ++ q.front) ++ q.back = p.joined ∙ ap (λ x. p.front ++ x) q.joined ∙ sym (append_assoc p.front q.front q.back) in (
      holds e (operator_words o) (operands_words more) d ts (p.front ++ q.front) r.front r.back (second-of ts (p.front ++ q.front) q.back r.front r.back apart r.joined) sign
          (operands-words more n d r.back r.second) r.first
          (λ y new ends sp room.
          let z = sp (omega (arith, room)) in
          let loose : looseness y < 2 + n = omega (arith, z.0, h.1) in
          (tt, refl, (h.0, loose, next-inner p.front q.front new r.back p.first q.first z.1 r.second))),
      part-holes (OtherOperands more n d) _ (operator_words o ++ expression_words e) [] (operand o e) ts ((p.front ++ q.front) ++ r.front) r.back []
          (third-of ts (p.front ++ q.front) q.back r.front r.back apart r.joined)
          (join-words (p.front ++ q.front) r.front (operator_words o) (expression_words e) sign (expression-words e d r.front r.first)) refl
          (λ z new ends sp room.
          let w = sp (omega (arith, room)) in
          let rest = next-inner p.front q.front r.front new p.first q.first r.first w.2 in
          (tt, refl, (h.0, h.1, regrouped _ _ (last-of-four p.front q.front r.front new) rest)))
          (operands_children more) (operands-inside more n d r.back r.second),
    ) where
      last-of-four : (a b c new : List Token) → ((a ++ b) ++ c) ++ (new ++ []) ≡ (a ++ b) ++ (c ++ new)
      last-of-four a b c new = append_assoc (a ++ b) c (new ++ []) ∙ ap (λ x. (a ++ b) ++ (c ++ x)) (append-nil new)

tail-inside : (t : Tail Span) (d : ℕ) (ts : List Token) → SpellsTail t d ts → Every (InHole (Tail Span) (OtherTail d) ts) (tail_children t)
tail-inside (method s x l) d ts h =
    let p = h.1 in
    let q = p.second in
    let parts = third-of ts p.front p.back q.front q.back p.joined q.joined in
    part-holes (OtherListing bracket.Round d) _ (mark k.Dot ++ (k.Identifier, x.text) ∷ []) [] (method s x) ts (p.front ++ q.front) q.back [] parts
    (join-words p.front q.front (mark k.Dot) ((k.Identifier, x.text) ∷ []) (one-words k.Dot p.front (λ y. refl) p.first) (name-words x q.front q.first)) refl
    (λ z new ends sp room. (cover _ new ends s ts _ [] parts h.0, next-third p.front q.front new p.first q.first (sp room)))
    (listing_children l bracket.Round) (listing-inside l bracket.Round d q.back q.second)
tail-inside (index s e) d ts h =
    let p = h.1 in
    let q = p.second in
    let w = q.first in
    let parts = second-of ts p.front p.back q.front q.back p.joined q.joined in (
      holds e (mark k.OpenSquare) (mark k.CloseSquare) w.inner ts p.front q.front q.back parts
          (one-words k.OpenSquare p.front (λ y. refl) p.first) (one-words k.CloseSquare q.back (λ y. refl) q.second) w.spelled
          (λ y new ends sp room.
          let z = sp (omega (arith, room, w.less)) in
          (cover _ new ends s ts p.front q.back parts h.0, next p.front (new ++ q.back) p.first (next new q.back (deeper w new z.1) q.second))),
      tt,
    )

tails-inside : (tails : Tails Span) (d : ℕ) (ts : List Token) → SpellsTails tails d ts → Every (InHole (Tails Span) (OtherTails d) ts) (tails_children tails)
tails-inside no_tails d ts h = tt
tails-inside (tail t more) d ts h =
    every-append (InHole (Tails Span) (OtherTails d) ts) _ _
    (part-holes (OtherTail d) _ [] (tails_words more) (λ x. tail x more) ts [] h.front h.back h.joined refl (tails-words more d h.back h.second)
    (λ z new ends sp room. (tt, next new h.back (sp (omega (arith, room))) h.second)) (tail_children t) (tail-inside t d h.front h.first))
    (part-holes (OtherTails d) _ (tail_words t) [] (tail t) ts h.front h.back [] (last-part ts h.front h.back h.joined) (tail-words t d h.front h.first) refl
    (λ z new ends sp room.
    let w = sp (omega (arith, room)) in
    (tt, next-last h.front new h.first w.1))
    (tails_children more) (tails-inside more d h.back h.second))

-- ---- expressions

pub expression-inside : (e : Expression Span) (d : ℕ) (ts : List Token) → SpellsExpression e d ts
    → Every (InHole (Expression Span) (OtherExpression e d) ts) (expression_children e)
expression-inside (identifier s x) d ts h = tt
expression-inside (boolean s b) d ts h = tt
expression-inside (integer s x) d ts h = tt
expression-inside (string s q x) d ts h = tt
expression-inside (paren s e) d ts h =
    let p = h.1 in
    let q = p.second in
    let w = q.first in
    let parts = second-of ts p.front p.back q.front q.back p.joined q.joined in (
      holds e (mark k.OpenRound) (mark k.CloseRound) w.inner ts p.front q.front q.back parts
          (one-words k.OpenRound p.front (λ y. refl) p.first) (one-words k.CloseRound q.back (λ y. refl) q.second) w.spelled
          (λ y new ends sp room.
          let z = sp (omega (arith, room, w.less)) in
          (omega arith, (cover _ new ends s ts p.front q.back parts h.0, next p.front (new ++ q.back) p.first (next new q.back (deeper w new z.1) q.second)))),
      tt,
    )
expression-inside (array l) d ts h =
    part-holes (OtherListing bracket.Square d) _ [] [] array ts [] ts [] (whole-part ts) refl refl
    (λ z new ends sp room. (omega arith, alone (SpellsListing z bracket.Square d) new (sp room)))
    (listing_children l bracket.Square) (listing-inside l bracket.Square d ts h)
expression-inside (dictionary l) d ts h =
    part-holes (OtherListing bracket.Curly d) _ [] [] dictionary ts [] ts [] (whole-part ts) refl refl
    (λ z new ends sp room. (omega arith, alone (SpellsListing z bracket.Curly d) new (sp room)))
    (listing_children l bracket.Curly) (listing-inside l bracket.Curly d ts h)
expression-inside (call s x l) d ts h =
    let p = h.1 in
    let parts = last-part ts p.front p.back p.joined in
    part-holes (OtherListing bracket.Round d) _ ((k.Identifier, x.text) ∷ []) [] (call s x) ts p.front p.back [] parts (name-words x p.front p.first) refl
    (λ z new ends sp room. (omega arith, (cover _ new ends s ts p.front [] parts h.0, next-last p.front new p.first (sp room))))
    (listing_children l bracket.Round) (listing-inside l bracket.Round d p.back p.second)
expression-inside (unary s o e) d ts h =
    let p = h.2 in
    let parts = last-part ts p.front p.back p.joined in (
      holds e (mark (unary_kind o)) [] d ts p.front p.back [] parts (one-words (unary_kind o) p.front (unary-drops o) p.first) refl p.second
          (λ y new ends sp room.
          let z = sp room in
          let loose : looseness y ≤ 1 = omega (arith, z.0, h.1) in
          (omega arith, (cover _ new ends s ts p.front [] parts h.0, loose, next-last p.front new p.first z.1))),
      tt,
    )
expression-inside (row s e os) d ts h =
    let p = h.3 in
    let parts = last-part ts p.front p.back p.joined in (
      holds e [] (operands_words os) d ts [] p.front p.back p.joined refl (operands-words os (row_level os) d p.back p.second) p.first
          (λ y new ends sp room.
          let z = sp (omega (arith, room)) in
          let loose : looseness y < 2 + row_level os = omega (arith, z.0, h.2) in
          (omega arith, (cover _ new ends s ts [] p.back p.joined h.0, h.1, loose, next new p.back z.1 p.second))),
      part-holes (OtherOperands os (row_level os) d) _ (expression_words e) [] (row s e) ts p.front p.back [] parts (expression-words e d p.front p.first) refl
          (λ z new ends sp room.
          let w = sp (omega (arith, room)) in
          let loose : looseness e < 2 + row_level z = omega (arith, w.1, h.2) in
          let others = subst (λ n. SpellsOperands z n d new) (sym w.1) w.2 in
          (omega (arith, w.1), (cover _ new ends s ts p.front [] parts h.0, w.0, loose, next-last p.front new p.first others)))
          (operands_children os) (operands-inside os (row_level os) d p.back p.second),
    )
expression-inside (postfix s e tails) d ts h =
    let p = h.3 in
    let parts = last-part ts p.front p.back p.joined in (
      holds e [] (tails_words tails) d ts [] p.front p.back p.joined refl (tails-words tails d p.back p.second) p.first
          (λ y new ends sp room.
          let z = sp (omega (arith, room)) in
          let loose : looseness y ≤ 0 = omega (arith, z.0, h.2) in
          (omega arith, (cover _ new ends s ts [] p.back p.joined h.0, h.1, loose, next new p.back z.1 p.second))),
      part-holes (OtherTails d) _ (expression_words e) [] (postfix s e) ts p.front p.back [] parts (expression-words e d p.front p.first) refl
          (λ z new ends sp room.
          let w = sp (omega (arith, room)) in
          (omega arith, (cover _ new ends s ts p.front [] parts h.0, w.0, h.2, next-last p.front new p.first w.1)))
          (tails_children tails) (tails-inside tails d p.back p.second),
    )
expression-inside (conditional s c y n) d ts h =
    let p = h.2 in
    let q = p.second in
    let r = q.second in
    let u = r.second in
    let v = r.first in
    let w = u.second in
    let asked = expression-words c d p.front p.first in
    let sign = one-words k.Question q.front (λ x. refl) q.first in
    let so = expression-words y v.inner r.front v.spelled in
    let colon = one-words k.Colon u.front (λ x. refl) u.first in
    let other = expression-words n w.inner u.back w.spelled in
    let behind = then-words _ _ r.back _ _ u colon other in
    let head : ts ≡ (p.front ++ q.front) ++ q.back = p.joined ∙ ap (λ x. p.front ++ x) q.joined ∙ sym (append_assoc p.front q.front q.back) in
    let rest : q.back ≡ (r.front ++ u.front) ++ u.back = r.joined ∙ ap (λ x. r.front ++ x) u.joined ∙ sym (append_assoc r.front u.front u.back) in
    let second = second-of ts (p.front ++ q.front) q.back r.front r.back head r.joined in
    let apart = p.joined ∙ ap (λ x. p.front ++ x) (q.joined ∙ ap (λ x. q.front ++ x) rest) ∙ tail_group p.front q.front (r.front ++ u.front) u.back in
    let third = last-part ts _ u.back apart in (
      holds c [] _ d ts [] p.front p.back p.joined refl (then-words _ _ p.back _ _ q sign (then-words _ _ q.back _ _ r so behind)) p.first
          (λ x new ends sp room.
          let z = sp (omega (arith, room)) in
          let loose : looseness x ≤ 8 = omega (arith, z.0, h.1) in
          (omega arith, (cover _ new ends s ts [] p.back p.joined h.0, loose, next new p.back z.1 q))),
      (
        holds y (expression_words c ++ mark k.Question) _ v.inner ts (p.front ++ q.front) r.front r.back second
            (join-words p.front q.front (expression_words c) (mark k.Question) asked sign) behind v.spelled
            (λ x new ends sp room.
            let z = sp (omega (arith, room, v.less)) in
            (omega arith, (cover _ new ends s ts _ r.back second h.0, h.1, next-inner p.front q.front new r.back p.first q.first (deeper v new z.1) u))),
        (
          holds n _ [] w.inner ts (p.front ++ (q.front ++ (r.front ++ u.front))) u.back [] third
              (join-words p.front (q.front ++ (r.front ++ u.front)) (expression_words c) (mark k.Question ++ (expression_words y ++ mark k.Colon)) asked
              (join-words q.front (r.front ++ u.front) (mark k.Question) (expression_words y ++ mark k.Colon) sign
              (join-words r.front u.front (expression_words y) (mark k.Colon) so colon))) refl w.spelled
              (λ x new ends sp room.
              let z = sp (omega (arith, room, w.less)) in
              let all = next p.front _ p.first (next q.front _ q.first (next-third r.front u.front new r.first u.first (deeper w new z.1))) in
              let parts = sym (tail_group p.front q.front (r.front ++ u.front) (new ++ [])) in
              (omega arith, (cover _ new ends s ts _ [] third h.0, h.1, regrouped _ _ parts all))),
          tt,
        ),
      ),
    )
