-- A file that is spelled stands within any depth that its tree has room in.
use Rattle.std.proofs.Common.{ℕ, ◌≤◌, max, List, length, subst, arith}
use Rattle.meson_lex.specs.declared.kinds.Kind.{Kind}
use Rattle.meson_lex.specs.declared.kinds.Kind.TheVariants as k
use Rattle.meson_lex.specs.declared.kinds.Span.{Span}
use Rattle.meson_lex.specs.Located.{Token, located}
use Rattle.meson_syntax.specs.declared.source.Limits.{Limits}
use Rattle.meson_syntax.specs.Tree.{Statement, evaluate, assign, selection, iteration, breaks, continues, Branches, no_branches, branch, Otherwise, nothing_else, otherwise, Statements, no_statements, statement, Block, block, File, file, erase}
use Rattle.meson_syntax.specs.Spelling.{Then, NewLine, One, SpellsExpression, SpellsStatement, SpellsBranches, SpellsOtherwise, SpellsStatements, SpellsBlock, SpellsFile}
use Rattle.meson_syntax.specs.Grammar.{expression_depth, statement_depth, branches_depth, otherwise_depth, statements_depth, block_depth, file_depth}
use Rattle.meson_syntax.specs.Reads.{IsSourceWithin, IsSpannedWithin}
use Rattle.meson_syntax.proofs.parsing.FileErased.{file-depth-erased}
use Rattle.meson_syntax.proofs.parsing.WithinExpressions.{deeper_in, both, new_line, expression_in}

mutual
  statement_in : (s : Statement Span) (d m : ℕ) (ts : List Token) → SpellsStatement s d ts → statement_depth s ≤ m → SpellsStatement s m ts
  statement_in (evaluate e) d m ts h room = expression_in e d m ts h room
  statement_in (assign s x a e) d m ts h room =
      let p = h.1 in
      let q = p.second in
      (h.0, both p p.first (both q q.first (expression_in e d m q.back q.second room)))
  statement_in (selection s bs o) d m ts h room =
      let w = h.2 in
      let p = w.spelled in
      let q = p.second in (
        h.0,
        h.1,
        deeper_in (λ inner. Then (SpellsBranches bs k.WordIf inner) (Then (SpellsOtherwise o inner) (One k.WordEndif))) (max (branches_depth bs) (otherwise_depth o)) m ts (omega (arith, room))
            (λ j r. record {
              front = p.front;
              back = p.back;
              joined = p.joined;
              first = branches_in bs k.WordIf w.inner j p.front p.first (omega (arith, r));
              second = record { front = q.front; back = q.back; joined = q.joined; first = otherwise_in o w.inner j q.front q.first (omega (arith, r)); second = q.second };
            }),
      )
  statement_in (iteration s xs e b) d m ts h room =
      let p = h.1 in
      let q = p.second in
      let v = q.second in
      let w = v.second in
      let u = w.spelled in
      let n = u.second in
      let line = n.first in
      let inside = deeper_in (λ inner. Then (SpellsExpression e inner) (Then (NewLine (SpellsBlock b inner)) (One k.WordEndforeach))) (max (expression_depth e) (block_depth b)) m v.back (omega (arith, room))
      (λ j r. record {
        front = u.front;
        back = u.back;
        joined = u.joined;
        first = expression_in e w.inner j u.front u.first (omega (arith, r));
        second = record {
          front = n.front;
          back = n.back;
          joined = n.joined;
          first = record { token = line.token; rest = line.rest; joined = line.joined; is = line.is; second = block_in b w.inner j line.token.to line.rest line.second (omega (arith, r)) };
          second = n.second;
        };
      }) in
      (h.0, both p p.first (both q q.first (both v v.first inside)))
  statement_in (breaks s) d m ts h room = h
  statement_in (continues s) d m ts h room = h

  branches_in : (bs : Branches Span) (word : Kind) (d m : ℕ) (ts : List Token) → SpellsBranches bs word d ts → branches_depth bs ≤ m → SpellsBranches bs word m ts
  branches_in no_branches word d m ts h room = h
  branches_in (branch e b more) word d m ts h room =
      let p = h.second in
      let q = p.second in
      let line = q.first in
      both h h.first (both p (expression_in e d m p.front p.first (omega (arith, room))) (both q (new_line line (block_in b d m line.token.to line.rest line.second (omega (arith, room)))) (branches_in more k.WordElif d m q.back q.second (omega (arith, room)))))

  otherwise_in : (o : Otherwise Span) (d m : ℕ) (ts : List Token) → SpellsOtherwise o d ts → otherwise_depth o ≤ m → SpellsOtherwise o m ts
  otherwise_in nothing_else d m ts h room = h
  otherwise_in (otherwise b) d m ts h room = let line = h.second in both h h.first (new_line line (block_in b d m line.token.to line.rest line.second room))

  statements_in : (list : Statements Span) (d m : ℕ) (ts : List Token) → SpellsStatements list d ts → statements_depth list ≤ m → SpellsStatements list m ts
  statements_in no_statements d m ts h room = h
  statements_in (statement s more) d m ts h room =
      let q = h.second in
      both h (statement_in s d m h.front h.first (omega (arith, room))) (both q q.first (statements_in more d m q.back q.second (omega (arith, room))))

  block_in : (b : Block Span) (d m last : ℕ) (ts : List Token) → SpellsBlock b d last ts → block_depth b ≤ m → SpellsBlock b m last ts
  block_in (block s list) d m last ts h room = (h.0, statements_in list d m ts h.1 room)

pub file_in : (f : File Span) (len d m : ℕ) (ts : List Token) → SpellsFile f len d ts → file_depth f ≤ m → SpellsFile f len m ts
file_in (file s b) len d m ts h room = (h.0, h.1, block_in b d m 0 ts h.2 room)

-- a file that reads within some limits reads within others that its length and its depth fit
pub other_limits : (limits others : Limits) (bytes : List ℕ) (f : File Span) → IsSpannedWithin limits bytes f → IsSourceWithin others bytes → file_depth (erase f) ≤ others.depth → IsSpannedWithin others bytes f
other_limits limits others bytes f s source room = record {
  reads = record { source = source; spells = s.reads.spells; depth = room };
  stands = file_in f (length bytes) limits.depth others.depth (located s.reads.spells.items) s.stands (subst (λ n. n ≤ others.depth) (file-depth-erased f) room);
}
