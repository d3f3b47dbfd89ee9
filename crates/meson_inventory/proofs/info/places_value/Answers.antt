use Rattle.std.proofs.Common.{◌≡◌, ℕ, List, ◌∷◌, [], ◌++◌, refl, sym, ap, ap₂, ◌∙◌, append_assoc}
use Rattle.std.specs.Vec.Iter.{into_iter_items}
use Rattle.serde_json.specs.Data.{Members, no_members, put}
use Rattle.meson_splice.specs.declared.file_set.File.{File}
use Rattle.meson_inventory.specs.Info.{keyword_place_data, put_places}
use Rattle.meson_inventory.specs.declared.info.KeywordPlace.{KeywordPlace}
use Rattle.meson_inventory.proofs.info.places_value.Goals as goal

put_one_more : (files : List File) (file : ℕ) (ms : Members) (ps : List KeywordPlace) (p : KeywordPlace)
    → put_places files file ms (ps ++ p ∷ []) ≡ put p.key (keyword_place_data files file p) (put_places files file ms ps)
put_one_more files file ms [] p = refl
put_one_more files file ms (q ∷ ps) p = put_one_more files file (put q.key (keyword_place_data files file q) ms) ps p

pub loop-place-preserved : goal.loop-place-preserved
loop-place-preserved c =
    let files = c.args.files.now in
    let file = c.args.file in
    let p = c.in-Some.place in
    let before = c.loop-place.yielded in
    let held = c.loop-place.invariant in
    record {
      files = c.put_keyword_place.ensures.files ∙ held.files;
      joined = held.joined ∙ ap (λ xs. before ++ xs) c.in-Some.ensures.steps.0 ∙ sym (append_assoc before (p ∷ []) (into_iter_items c.next.new.self));
      put = c.in_ok-put_keyword_place.ensures.put ∙ ap₂ (λ fs ms. put p.key (keyword_place_data fs file p) ms) held.files held.put
          ∙ sym (put_one_more files file no_members before p);
    }
