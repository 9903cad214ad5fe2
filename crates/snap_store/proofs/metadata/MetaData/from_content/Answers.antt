use Rattle.snap_store.proofs.Prelude.{ap, sym, ◌∙◌, tree, pair_list, pair_trees, tree-Map, kind_told, fields_told}
use Rattle.snap_content.proofs.DictMade.{dict_of}
use Rattle.snap_store.proofs.MetaTrees.{tells}
use Rattle.snap_store.proofs.metadata.MetaData.from_content.Goals as goal

pub returns-in-None-clause-end : goal.returns-in-None-clause-end
returns-in-None-clause-end c = record {
  pairs = pair_trees (pair_list c.in-Map.pairs);
  is_map = ap tree c.in-Map.is ∙ tree-Map c.in-Map.pairs;
  lacking = ap (λ ps. kind_told (pair_trees ps)) (sym c.as_slice.ensures) ∙ sym c.in_ok-read_kind.ensures ∙ c.in-None.is;
}

pub returns-in-None-clause-read : goal.returns-in-None-clause-read
returns-in-None-clause-read c = λ plain made.
    let dict = dict_of _ c.in-Map.pairs plain c.in-Map.is made in
    let same = ap pair_trees c.as_slice.ensures ∙ dict.made in
    record { entries = dict.held; header_is = dict.is; lacking = sym (ap kind_told same) ∙ sym c.in_ok-read_kind.ensures ∙ c.in-None.is }

pub returns-in_ok-read_fields-in-Some-clause-end : goal.returns-in_ok-read_fields-in-Some-clause-end
returns-in_ok-read_fields-in-Some-clause-end c =
    tells _ (pair_trees (pair_list c.in-Map.pairs)) c.in-Some.kind _ (ap tree c.in-Map.is ∙ tree-Map c.in-Map.pairs)
    (ap (λ ps. kind_told (pair_trees ps)) (sym c.as_slice.ensures) ∙ sym c.in_ok-read_kind.ensures ∙ c.in-Some.is)
    (c.in_ok-read_fields-in-Some.ensures ∙ ap (λ ps. fields_told (pair_trees ps) c.in-Some.kind) c.as_slice-in-Some.ensures)

pub returns-in_ok-read_fields-in-Some-clause-read : goal.returns-in_ok-read_fields-in-Some-clause-read
returns-in_ok-read_fields-in-Some-clause-read c = λ plain made.
    let dict = dict_of _ c.in-Map.pairs plain c.in-Map.is made in
    let same = ap pair_trees c.as_slice.ensures ∙ dict.made in
    let same_there = ap pair_trees c.as_slice-in-Some.ensures ∙ dict.made in
    record {
      entries = dict.held;
      header_is = dict.is;
      kind = c.in-Some.kind;
      kind_is = sym (ap kind_told same) ∙ sym c.in_ok-read_kind.ensures ∙ c.in-Some.is;
      fields_are = c.in_ok-read_fields-in-Some.ensures ∙ ap (λ ps. fields_told ps c.in-Some.kind) same_there;
    }
