-- A statement appended to its file: the new text spells the tree with it at the end.
use Rattle.meson_edit.proofs.Words.{◌≡◌, ◌∷◌, ◌++◌, [], refl, sym, ap, ◌∙◌, new_line, significant, one_list, append-law, statement_words, file_words, erase}
use Rattle.meson_edit.proofs.Words.{some-injective, AppendedSpell}
use Rattle.meson_layout.specs.declared.primitive.Primitive.TheVariants as layout
use Rattle.meson_edit.proofs.exchange.Appended.{file-last-words}
use Rattle.meson_edit.proofs.exchange.Standing.{file-end, statement-end}
use Rattle.meson_edit.proofs.Coding.{coding-law, texts-law}

pub appended-spell : AppendedSpell
appended-spell new limits bytes f s items are name writes t is level =
    let words = statement_words new.node in
    let spells = s.reads.spells in
    let own = writes.text in
    let depth = file-end bytes (erase f) spells items are in
    let a = append-law name bytes items are depth new.bytes own.items words
    (record { are_items = own.are_items; tight = own.tight; says = own.is_words; ends = statement-end new.node new.bytes own }) in
    let e = a.1 in
    let old : significant items ≡ file_words (erase f) = ap significant (one_list bytes items spells.items are spells.are_items) ∙ spells.words in
    record {
      primitive = layout.Append new.bytes;
      is_primitive = refl;
      placed = tt;
      text = bytes ++ a.0;
      patches = e.patches;
      utf8 = coding-law name bytes items are s.reads.source.utf8 (layout.Append new.bytes) writes.utf8 (bytes ++ a.0) e.patches;
      texts = texts-law name bytes items are s.reads.source.utf8 (layout.Append new.bytes) writes.utf8;
      spells = record {
        items = e.items;
        are_items = e.are_items;
        words = e.says ∙ ap (λ w. w ++ (words ++ new_line ∷ [])) old ∙ sym (file-last-words (erase f) new.node) ∙ ap file_words (some-injective _ _ is);
        level = level;
      };
    }
