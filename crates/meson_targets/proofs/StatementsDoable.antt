-- A statement put at the end of a file or taken out of it leaves a tree with its levels, no deeper than before or than the statement: the step may be done.
use Rattle.meson_targets.proofs.Words.{All, option_map, ◌≡◌, ℕ, zero, suc, ◌+◌, ◌≤◌, List, [], ◌∷◌, Some, refl, subst, arith, All-set, Word, statement_depth}
use Rattle.meson_targets.proofs.Words.{statements_depth, block_depth, file_depth, LevelStatement, LevelBlock, LevelFile, Sort, of_expression, of_statement}
use Rattle.meson_targets.proofs.Words.{of_block, Node, reach, nth, Nowhere, Plain, Statement, Statements, no_statements, statement, Block, block, file}
use Rattle.meson_targets.proofs.Words.{some-injective, Reaches, and-then-some, map-some, reach-fits, BlockAt, block_of_node, block_at, statement_in, all_but}
use Rattle.meson_targets.proofs.Words.{block_without, and_last, file_and_last, Written, Edit, RemoveStatement, Append, edited, Writes, AreDoable}
use Rattle.meson_targets.proofs.Words.{MayStandBetween, one, none, change_there, all_nth}
use Rattle.meson_layout.specs.declared.primitive.BlankLines.{BlankLines}
use Rattle.meson_edit.proofs.exchange.AmongStatements.{without-level}
use Rattle.meson_edit.proofs.exchange.Appended.{file-last-level}
use Rattle.meson_edit.proofs.paths.Depths.{node_depth, Grows}
use Rattle.meson_edit.proofs.paths.DeepLists.{reach-grows}

-- ---- a statement that goes

-- the file has its levels, and grows no deeper, with any block in the place of one
record InFile (f : Plain) (b : BlockAt Nowhere) : Type 0 where
  inside : LevelFile f → LevelBlock b.inside
  outside : LevelFile f → (other : Block Nowhere) → LevelBlock other → LevelFile (b.back other)
  grows : (other : Block Nowhere) (n : ℕ) → block_depth other ≤ block_depth b.inside + n → file_depth (b.back other) ≤ file_depth f + n

node_in_file : (s : Nowhere) (c : Block Nowhere) (sort : Sort) (x : Node sort Nowhere) (before behind : List Word) (back : Node sort Nowhere → Block Nowhere) (b : BlockAt Nowhere)
    → Reaches Nowhere of_block c (record { sort = sort; inside = x; before = before; behind = behind; back = back })
    → Grows Nowhere (Block Nowhere) (node_depth Nowhere of_block) c (record { sort = sort; inside = x; before = before; behind = behind; back = back })
    → block_of_node Nowhere sort x (file s c) back ≡ Some b → InFile (file s c) b
node_in_file s c of_expression x before behind back b r g is = absurd cc
node_in_file s c of_statement x before behind back b r g is = absurd cc
node_in_file s c of_block x before behind back b r g is = subst (InFile (file s c)) (some-injective _ _ is) (record {
  inside = λ l. r.inside l;
  outside = λ l other m. r.outside l other tt m;
  grows = λ other n m. g other n m;
})

in_file : (f : Plain) (path : List ℕ) (b : BlockAt Nowhere) → block_at f path ≡ Some b → InFile f b
in_file (file s c) path b is =
    let o = and-then-some (λ h. block_of_node Nowhere h.sort h.inside (file s c) h.back) (reach Nowhere of_block c path) b is in
    let h = o.0 in
    node_in_file s c h.sort h.inside h.before h.behind h.back b (reach-fits Nowhere of_block c path h o.1) (reach-grows Nowhere of_block c path h o.1) o.2

all_but_depth : (list : Statements Nowhere) (n : ℕ) → statements_depth (all_but list n) ≤ statements_depth list
all_but_depth no_statements n = omega arith
all_but_depth (statement s more) zero = omega arith
all_but_depth (statement s more) (suc n) = let m = all_but_depth more n in omega (arith, m)

without_depth : (b : Block Nowhere) (n : ℕ) → block_depth (block_without b n) ≤ block_depth b + 0
without_depth (block s list) n = let m = all_but_depth list n in omega (arith, m)

pub record Gone (f now : Plain) : Type 0 where
  pub level : LevelFile f → LevelFile now
  pub depth : file_depth now ≤ file_depth f

pub gone : (f now : Plain) (blank : BlankLines) (path : List ℕ) (n : ℕ) → edited (RemoveStatement blank path n) f ≡ Some now → Gone f now
gone f now blank path n is =
    let o = and-then-some (λ (b : BlockAt Nowhere). option_map (λ s. b.back (block_without b.inside n)) (statement_in b.inside n)) (block_at f path) now is in
    let b = o.0 in
    let m = map-some (λ (s : Statement Nowhere). b.back (block_without b.inside n)) (statement_in b.inside n) now o.2 in
    let i = in_file f path b o.1 in
    let deep = i.grows (block_without b.inside n) 0 (without_depth b.inside n) in
    subst (Gone f) m.2 (record {
      level = λ l. i.outside l (block_without b.inside n) (without-level b.inside n (i.inside l));
      depth = omega (arith, deep);
    })

-- ---- a statement that comes

last_depth : (list : Statements Nowhere) (x : Statement Nowhere) (most : ℕ) → statements_depth list ≤ most → statement_depth x ≤ most → statements_depth (and_last list x) ≤ most
last_depth no_statements x most old new = omega (arith, new)
last_depth (statement s more) x most old new =
    let later : statements_depth more ≤ most = omega (arith, old) in
    let m = last_depth more x most later new in
    omega (arith, old, m)

come_depth : (f : Plain) (x : Statement Nowhere) (most : ℕ) → file_depth f ≤ most → statement_depth x ≤ most → file_depth (file_and_last f x) ≤ most
come_depth (file s (block b list)) x most old new = last_depth list x most old new

-- ---- the one step

one_doable : (trees : List Plain) (i : ℕ) (e : Edit) (t now : Plain) → nth trees i ≡ Some t → All MayStandBetween trees → Writes e → edited e t ≡ Some now → MayStandBetween now → AreDoable (record { file = i; edit = e } ∷ []) trees
one_doable trees i e t now there all writes is stands =
    one (record { file = i; edit = e }) [] trees _ writes (change_there (edited e) trees i t now there is) (All-set MayStandBetween trees i now stands all) (none _)

pub removal_doable : (trees : List Plain) (i : ℕ) (blank : BlankLines) (path : List ℕ) (n : ℕ) (t now : Plain) → nth trees i ≡ Some t → All MayStandBetween trees
    → edited (RemoveStatement blank path n) t ≡ Some now → AreDoable (record { file = i; edit = RemoveStatement blank path n } ∷ []) trees
removal_doable trees i blank path n t now there all is =
    let g = gone t now blank path n is in
    let was = all_nth MayStandBetween trees i t all there in
    let deep = g.depth in
    let most = was.1 in
    one_doable trees i (RemoveStatement blank path n) t now there all tt is (g.level was.0, omega (arith, deep, most))

pub append_doable : (trees : List Plain) (i : ℕ) (new : Written (Statement Nowhere)) (t : Plain) → nth trees i ≡ Some t → All MayStandBetween trees → Writes (Append new) → LevelStatement new.node → statement_depth new.node ≤ 1
    → AreDoable (record { file = i; edit = Append new } ∷ []) trees
append_doable trees i new t there all writes level small =
    let was = all_nth MayStandBetween trees i t all there in
    let most : statement_depth new.node ≤ 65 = omega (arith, small) in
    one_doable trees i (Append new) t (file_and_last t new.node) there all writes refl (file-last-level t was.0 new.node level, come_depth t new.node 65 was.1 most)
