-- A statement that is removed is gone from its block, and all else stays.
use Rattle.meson_targets.proofs.Words.{Stay}
use Rattle.meson_targets.proofs.Words.{◌≡◌, ℕ, zero, suc, List, [], ◌∷◌, ◌++◌, length, Option, Some, None, refl, sym, ap, ◌∙◌, subst, option_and_then}
use Rattle.meson_targets.proofs.Words.{option_map, Word, Sort, of_expression, of_statement, of_block, Node, nth, reach, Nowhere, Plain, Statement, Statements}
use Rattle.meson_targets.proofs.Words.{no_statements, statement, statement_list, Block, block, file, some-injective, and-then-some, map-some, BlockAt, all_but}
use Rattle.meson_targets.proofs.Words.{block_at, block_of_node, block_without, statement_in, RemoveStatement, edited, Step, all_stepped, changed_at, ChangeMade}
use Rattle.meson_targets.proofs.Words.{change_made, StatementGone, block_statements, StatementPlace, statement_removal}
use Rattle.meson_edit.proofs.paths.PutThere.{PutThere, reach-stays}

-- ---- the statements of a block without one

pub record Taken (list : Statements Nowhere) (n : ℕ) (x : Statement Nowhere) : Type 0 where
  pub front : List (Statement Nowhere)
  pub back : List (Statement Nowhere)
  pub number : n ≡ length front
  pub had : statement_list list ≡ front ++ x ∷ back
  pub has : statement_list (all_but list n) ≡ front ++ back

taken : (list : Statements Nowhere) (n : ℕ) (x : Statement Nowhere) → nth (statement_list list) n ≡ Some x → Taken list n x
taken no_statements n x is = absurd cc
taken (statement s more) zero x is = record { front = []; back = statement_list more; number = refl; had = ap (λ z. z ∷ statement_list more) (some-injective s x is); has = refl }
taken (statement s more) (suc n) x is =
    let t = taken more n x is in
    record { front = s ∷ t.front; back = t.back; number = ap suc t.number; had = ap (λ l. s ∷ l) t.had; has = ap (λ l. s ∷ l) t.has }

record TakenFrom (b : Block Nowhere) (n : ℕ) (x : Statement Nowhere) : Type 0 where
  front : List (Statement Nowhere)
  back : List (Statement Nowhere)
  number : n ≡ length front
  had : block_statements b ≡ front ++ x ∷ back
  has : block_statements (block_without b n) ≡ front ++ back

taken_from : (b : Block Nowhere) (n : ℕ) (x : Statement Nowhere) → statement_in b n ≡ Some x → TakenFrom b n x
taken_from (block s list) n x is = let t = taken list n x is in record { front = t.front; back = t.back; number = t.number; had = t.had; has = t.has }

-- ---- a block that is put where a path names one

there_by : (s : Nowhere) (whole : Block Nowhere) (path : List ℕ) (sort : Sort) (x : Node sort Nowhere) (before behind : List Word) (back : Node sort Nowhere → Block Nowhere) (b : BlockAt Nowhere) (y : Block Nowhere)
    → PutThere Nowhere of_block path (record { sort = sort; inside = x; before = before; behind = behind; back = back })
    → block_of_node Nowhere sort x (file s whole) back ≡ Some b → option_map (λ (c : BlockAt Nowhere). block_statements c.inside) (block_at (b.back y) path) ≡ Some (block_statements y)
there_by s whole path of_expression x before behind back b y put is = absurd cc
there_by s whole path of_statement x before behind back b y put is = absurd cc
there_by s whole path of_block x before behind back b y put is =
    subst (λ (c : BlockAt Nowhere). option_map (λ (d : BlockAt Nowhere). block_statements d.inside) (block_at (c.back y) path) ≡ Some (block_statements y)) (some-injective _ _ is)
    (ap (λ o. option_map (λ (d : BlockAt Nowhere). block_statements d.inside) (option_and_then (λ h. block_of_node Nowhere h.sort h.inside (file s (back y)) h.back) o)) (put y))

there_too : (t : Plain) (path : List ℕ) (b : BlockAt Nowhere) (y : Block Nowhere) → block_at t path ≡ Some b → option_map (λ (c : BlockAt Nowhere). block_statements c.inside) (block_at (b.back y) path) ≡ Some (block_statements y)
there_too (file s whole) path b y is =
    let o = and-then-some (λ h. block_of_node Nowhere h.sort h.inside (file s whole) h.back) (reach Nowhere of_block whole path) b is in
    let h = o.0 in
    there_by s whole path h.sort h.inside h.before h.behind h.back b y (reach-stays Nowhere of_block whole path h o.1) o.2

-- ---- the step

pub only_step : (s : Step) (trees after : List Plain) → all_stepped (s ∷ []) trees ≡ Some after → changed_at s.file (edited s.edit) trees ≡ Some after
only_step s trees after done = by (changed_at s.file (edited s.edit) trees) done where
  by : (o : Option (List Plain)) → option_and_then (all_stepped []) o ≡ Some after → o ≡ Some after
  by None same = absurd cc
  by (Some us) same = same

module _ (line : StatementPlace) (trees after : List Plain) (done : all_stepped (statement_removal line) trees ≡ Some after) where
  abbrev path : List ℕ
  path = line.block.path.steps

  pub made : ChangeMade line.block.file (edited (RemoveStatement Stay path line.number)) trees after
  made = change_made line.block.file (edited (RemoveStatement Stay path line.number)) trees after (only_step (record { file = line.block.file; edit = RemoveStatement Stay path line.number }) trees after done)

  pub record Removed : Type 0 where
    pub block : BlockAt Nowhere
    pub is_block : block_at made.old path ≡ Some block
    pub it : Statement Nowhere
    pub is_it : statement_in block.inside line.number ≡ Some it
    pub now : made.new ≡ block.back (block_without block.inside line.number)

  pub removed : Removed
  removed =
      let n = line.number in
      let o = and-then-some (λ (b : BlockAt Nowhere). option_map (λ s. b.back (block_without b.inside n)) (statement_in b.inside n)) (block_at made.old path) made.new made.is in
      let m = map-some (λ (s : Statement Nowhere). o.0.back (block_without o.0.inside n)) (statement_in o.0.inside n) made.new o.2 in
      record { block = o.0; is_block = o.1; it = m.0; is_it = m.1; now = sym m.2 }

  pub gone : StatementGone line removed.it trees after
  gone =
      let r = removed in
      let found : Option Plain → Option (List (Statement Nowhere)) = λ o. option_and_then (λ t. option_map (λ b. block_statements b.inside) (block_at t path)) o in
      let t = taken_from r.block.inside line.number r.it r.is_it in
      record {
        front = t.front;
        back = t.back;
        number = t.number;
        had = ap found made.was ∙ ap (option_map (λ (b : BlockAt Nowhere). block_statements b.inside)) r.is_block ∙ ap Some t.had;
        has = ap found made.now ∙ ap (λ u. found (Some u)) r.now ∙ there_too made.old path r.block (block_without r.block.inside line.number) r.is_block ∙ ap Some t.has;
        file = record { tree = made.old; was = made.was; block = r.block; is_block = r.is_block; other = block_without r.block.inside line.number; now = made.now ∙ ap Some r.now };
        others = made.others;
      }
