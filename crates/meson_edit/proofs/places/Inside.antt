-- The tokens of a node within others: those before it, its own, and those behind it; and what the others spell with another node there.
use Rattle.meson_edit.proofs.Words.{◌≡◌, ℕ, ◌≤◌, List, [], ◌++◌, sym, ap, subst, ◌∙◌, append_assoc, append-nil, Token, words, Word, Span, expression_depth}
use Rattle.meson_edit.proofs.Words.{statement_depth, block_depth, Sort, of_expression, of_statement, of_block, Node, Hole, around, all_around, expression_in}
use Rattle.meson_edit.proofs.Words.{block_in, SpellsExpression, SpellsStatement, SpellsBlock, Expression, Block, Every, every-around, join-words}
use Rattle.meson_syntax.proofs.paths.Fits.{AsTight}
use Rattle.meson_edit.proofs.places.SameEnds.{SameEnds, ends-around}

-- a block knows where the token before it ends
abbrev pub SpellsNode : (sort : Sort) → Node sort Span → ℕ → ℕ → List Token → Type 0
SpellsNode of_expression e d last ts = SpellsExpression e d ts
SpellsNode of_statement s d last ts = SpellsStatement s d ts
SpellsNode of_block b d last ts = SpellsBlock b d last ts

abbrev pub node_depth : (sort : Sort) → Node sort Span → ℕ
node_depth of_expression e = expression_depth e
node_depth of_statement s = statement_depth s
node_depth of_block b = block_depth b

-- the tokens spell another node, where there is room for it, and it binds as tightly
abbrev pub SpellsOther : (sort : Sort) → Node sort Span → ℕ → ℕ → Node sort Span → List Token → Type 0
SpellsOther sort n d last y ts = node_depth sort y ≤ d → AsTight Span sort n y × SpellsNode sort y d last ts

-- the tokens of a node, where those of what stands around it are ts
pub record Inside (sort : Sort) (n : Node sort Span) (before behind : List Word) (ts : List Token) : Type 0 where
  pub depth : ℕ
  pub last : ℕ
  pub front : List Token
  pub own : List Token
  pub back : List Token
  pub parts : ts ≡ front ++ (own ++ back)
  pub is_front : words front ≡ before
  pub is_back : words back ≡ behind
  pub spelled : SpellsNode sort n depth last own

-- Where the new tokens spell another part, they spell the whole with it, among the tokens around the part.
abbrev pub Rebuilds : {T U : Type 0} → (T → List Token → Type 0) → (U → List Token → Type 0) → (T → U) → (front own back : List Token) → Type 0
Rebuilds {T} Part Whole make front own back = (z : T) (new : List Token) → SameEnds own new → Part z new → Whole (make z) (front ++ (new ++ back))

-- the node in a hole, and another one there
pub record InHole (T : Type 0) (Whole : T → List Token → Type 0) (ts : List Token) (h : Hole Span T) : Type 0 where
  pub inside : Inside h.sort h.inside h.before h.behind ts
  pub swap : Rebuilds (SpellsOther h.sort h.inside inside.depth inside.last) Whole h.back inside.front inside.own inside.back

group : {A : Type 0} (a b c d e : List A) → a ++ ((b ++ (c ++ d)) ++ e) ≡ (a ++ b) ++ (c ++ (d ++ e))
group a b c d e = simp append_assoc

-- a node in a part is one in the whole
pub inside-part : (sort : Sort) (n : Node sort Span) (before behind w v : List Word) (ts front own back : List Token) → ts ≡ front ++ (own ++ back) → words front ≡ w → words back ≡ v
    → Inside sort n before behind own → Inside sort n (w ++ before) (behind ++ v) ts
inside-part sort n before behind w v ts front own back parts f b i = record {
  depth = i.depth;
  last = i.last;
  front = front ++ i.front;
  own = i.own;
  back = i.back ++ back;
  parts = parts ∙ ap (λ o. front ++ (o ++ back)) i.parts ∙ group front i.front i.own i.back back;
  is_front = join-words front i.front w before f i.is_front;
  is_back = join-words i.back back behind v i.is_back b;
  spelled = i.spelled;
}

pub hole-part : {T U : Type 0} (Part : T → List Token → Type 0) (Whole : U → List Token → Type 0) (before behind : List Word) (make : T → U)
    (ts front own back : List Token) → ts ≡ front ++ (own ++ back) → words front ≡ before → words back ≡ behind → Rebuilds Part Whole make front own back
    → (h : Hole Span T) → InHole T Part own h → InHole U Whole ts (around before behind make h)
unfolding inside-part
hole-part Part Whole before behind make ts front own back parts f b rebuild h i = record {
  inside = inside-part h.sort h.inside h.before h.behind before behind ts front own back parts f b i.inside;
  swap = λ y new e sp.
      let u = i.inside in
      subst (Whole (make (h.back y))) (group front u.front new u.back back)
      (rebuild (h.back y) (u.front ++ (new ++ u.back)) (ends-around own u.front u.own u.back new u.parts e) (i.swap y new e sp));
}

-- so for all holes
pub part-holes : {T U : Type 0} (Part : T → List Token → Type 0) (Whole : U → List Token → Type 0) (before behind : List Word) (make : T → U)
    (ts front own back : List Token) → ts ≡ front ++ (own ++ back) → words front ≡ before → words back ≡ behind → Rebuilds Part Whole make front own back
    → (hs : List (Hole Span T)) → Every (InHole T Part own) hs → Every (InHole U Whole ts) (all_around before behind make hs)
part-holes {T} {U} Part Whole before behind make ts front own back parts f b rebuild hs every =
    every-around (InHole T Part own) (InHole U Whole ts) before behind make
    (hole-part Part Whole before behind make ts front own back parts f b rebuild) hs every

-- where nothing stands behind the part, or nothing before it
pub last-part : (ts front own : List Token) → ts ≡ front ++ own → ts ≡ front ++ (own ++ [])
last-part ts front own e = e ∙ ap (λ o. front ++ o) (sym (append-nil own))

pub whole-part : (ts : List Token) → ts ≡ [] ++ (ts ++ [])
whole-part ts = sym (append-nil ts)

-- an expression, and a block
pub holds : {T : Type 0} {Whole : T → List Token → Type 0} {make : Expression Span → T} (e : Expression Span)
    (before behind : List Word) (d : ℕ) (ts front own back : List Token) → ts ≡ front ++ (own ++ back) → words front ≡ before → words back ≡ behind → SpellsExpression e d own
    → Rebuilds (SpellsOther of_expression e d 0) Whole make front own back → InHole T Whole ts (expression_in before e behind make)
holds e before behind d ts front own back parts f b sp rebuild = record {
  inside = record { depth = d; last = 0; front = front; own = own; back = back; parts = parts; is_front = f; is_back = b; spelled = sp };
  swap = rebuild;
}

pub holds-block : {T : Type 0} {Whole : T → List Token → Type 0} {make : Block Span → T} (b : Block Span)
    (before behind : List Word) (d last : ℕ) (ts front own back : List Token) → ts ≡ front ++ (own ++ back) → words front ≡ before → words back ≡ behind → SpellsBlock b d last own
    → Rebuilds (SpellsOther of_block b d last) Whole make front own back → InHole T Whole ts (block_in before b behind make)
holds-block b before behind d last ts front own back parts f k sp rebuild = record {
  inside = record { depth = d; last = last; front = front; own = own; back = back; parts = parts; is_front = f; is_back = k; spelled = sp };
  swap = rebuild;
}
