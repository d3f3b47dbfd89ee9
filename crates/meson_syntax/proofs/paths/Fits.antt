-- A node in a hole: the thing around it is that hole with the node in it, has the words before the hole, of the node, and behind it,
-- and keeps its levels with another node that binds as tightly.
use Rattle.std.specs.Prelude.{⊤}
use Rattle.std.proofs.Common.{◌≡◌, ◌≤◌, List, ◌++◌, ap, ◌∙◌, append_assoc}
use Rattle.meson_lex.specs.Significant.{Word}
use Rattle.meson_syntax.specs.Grammar.{looseness, LevelExpression, LevelStatement, LevelBlock}
use Rattle.meson_syntax.specs.Paths.{Sort, of_expression, of_statement, of_block, Node, node_words, Hole, around}

abbrev pub LevelNode : (S : Type 0) (sort : Sort) → Node sort S → Type 0
LevelNode S of_expression e = LevelExpression e
LevelNode S of_statement s = LevelStatement s
LevelNode S of_block b = LevelBlock b

-- whether the second node binds as tightly as the first
abbrev pub AsTight : (S : Type 0) (sort : Sort) → Node sort S → Node sort S → Type 0
AsTight S of_expression e x = looseness x ≤ looseness e
AsTight S of_statement s x = ⊤
AsTight S of_block b x = ⊤

-- Level says that a thing has its levels, and Like that another one may stand where it does.
pub record Fits (S T : Type 0) (words : T → List Word) (Level : T → Type 0) (Like : T → T → Type 0) (x : T) (h : Hole S T) : Type 0 where
  pub same : h.back h.inside ≡ x
  pub put : (y : Node h.sort S) → words (h.back y) ≡ h.before ++ (node_words S h.sort y ++ h.behind)
  pub like : (y : Node h.sort S) → Like x (h.back y)
  pub inside : Level x → LevelNode S h.sort h.inside
  pub outside : Level x → (y : Node h.sort S) → AsTight S h.sort h.inside y → LevelNode S h.sort y → Level (h.back y)

group : {A : Type 0} (a b c d e : List A) → a ++ ((b ++ (c ++ d)) ++ e) ≡ (a ++ b) ++ (c ++ (d ++ e))
group a b c d e = simp append_assoc

-- a hole in a part is one in the whole
pub around-fits : (S T U : Type 0) (wordsT : T → List Word) (wordsU : U → List Word) (LevelT : T → Type 0) (LevelU : U → Type 0) (LikeT : T → T → Type 0) (LikeU : U → U → Type 0)
    (before behind : List Word) (make : T → U) (x : T)
    → ((z : T) → LikeT x z → wordsU (make z) ≡ before ++ (wordsT z ++ behind)) → ((z : T) → LikeT x z → LikeU (make x) (make z))
    → (LevelU (make x) → LevelT x) → (LevelU (make x) → (z : T) → LikeT x z → LevelT z → LevelU (make z))
    → (h : Hole S T) → Fits S T wordsT LevelT LikeT x h → Fits S U wordsU LevelU LikeU (make x) (around before behind make h)
around-fits S T U wordsT wordsU LevelT LevelU LikeT LikeU before behind make x told likely inner outer h f = record {
  same = ap make f.same;
  put = λ y. told (h.back y) (f.like y) ∙ ap (λ w. before ++ (w ++ behind)) (f.put y) ∙ group before h.before (node_words S h.sort y) h.behind behind;
  like = λ y. likely (h.back y) (f.like y);
  inside = λ l. f.inside (inner l);
  outside = λ l y t ly. outer l (h.back y) (f.like y) (f.outside (inner l) y t ly);
}
