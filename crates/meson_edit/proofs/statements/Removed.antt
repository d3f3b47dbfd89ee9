-- A statement removed from its file: the new text spells the tree without it.
use Rattle.meson_edit.proofs.Words.{option_map, option_and_then, List, ◌++◌, length, ap, subst, ◌∙◌, Lexeme, joined, Word, Span, one_list, IsSpanOf}
use Rattle.meson_edit.proofs.Words.{statement-removal-law, statement_in, StatementRemovalsSpell, LineStands, statement_span}
use Rattle.meson_layout.specs.declared.primitive.Primitive.TheVariants as layout
use Rattle.meson_layout.specs.FileLaws.{StatementIn}
use Rattle.meson_edit.proofs.exchange.Standing.{line-stands}
use Rattle.meson_edit.proofs.Coding.{coding-law, texts-law}
use Rattle.meson_edit.proofs.statements.Erasing.{leaves}

module _ (items : List Lexeme) (s : Span) (words rest : List Word) (l : LineStands items s words rest) where
  -- its place among the items, for the layout
  pub span-place : IsSpanOf items s
  span-place = record {
    left = l.left;
    first = l.tight.first;
    more = l.tight.more;
    right = l.right;
    joins = l.parts ∙ ap (λ own. l.left ++ (own ++ l.right)) l.tight.begins;
    from = l.from;
    to = l.to ∙ ap (λ own. length (joined (l.left ++ own))) l.tight.begins;
  }

  abbrev pub line-place : StatementIn items s l.more
  line-place = record {
    left = l.left;
    own = l.own;
    right = l.right;
    parts = l.parts;
    from = l.from;
    to = l.to;
    tight = l.tight;
    begins = l.begins;
    ends = l.ends;
    is_right = l.is_right;
  }

pub removals-spell : StatementRemovalsSpell
removals-spell blank path n limits bytes f s items are name writes t is level =
    let v = leaves f path n t is in
    let b = v.place in
    let x = v.node in
    let sp = statement_span x in
    let same = one_list bytes s.reads.spells.items items s.reads.spells.are_items are in
    let l = subst (λ xs. LineStands xs sp _ _) same (line-stands limits bytes f s path b v.is_place n x v.is_node) in
    let g = statement-removal-law name bytes items are blank sp l.more (line-place items sp _ _ l) in
    record {
      primitive = layout.RemoveStatement sp blank;
      is_primitive =
          ap (λ o. option_map (λ q. layout.RemoveStatement q blank) (option_map statement_span (option_and_then (λ b. statement_in b.inside n) o))) v.is_place
          ∙ ap (λ o. option_map (λ q. layout.RemoveStatement q blank) (option_map statement_span o)) v.is_node;
      placed = span-place items sp _ _ l;
      text = joined g.front ++ joined g.rest;
      patches = g.edited.patches;
      utf8 = coding-law name bytes items are s.reads.source.utf8 (layout.RemoveStatement sp blank) tt (joined g.front ++ joined g.rest) g.edited.patches;
      texts = texts-law name bytes items are s.reads.source.utf8 (layout.RemoveStatement sp blank) tt;
      spells = record {
        items = g.edited.items;
        are_items = g.edited.are_items;
        words = g.edited.says ∙ l.is_rest ∙ v.words;
        level = level;
      };
    }
