use Rattle.snap_emit_values.proofs.Contents.{seq_seen, tuple_seen, tuple_struct_seen, bytes_seen, map_seen, struct_seen, tuple_variant_seen, struct_variant_seen}
use Rattle.snap_emit_values.proofs.node.Node.+of_tree.Goals as goal

pub returns-in-Bytes : goal.returns-in-Bytes
returns-in-Bytes t c = bytes_seen _ _ _ c.in-Bytes.is c.as_slice.ensures

pub returns-in-Seq : goal.returns-in-Seq
returns-in-Seq t c = seq_seen _ _ _ c.in-Seq.is c.as_slice-in-Seq.ensures

pub returns-in-Tuple : goal.returns-in-Tuple
returns-in-Tuple t c = tuple_seen _ _ _ c.in-Tuple.is c.as_slice-in-Tuple.ensures

pub returns-in-TupleStruct : goal.returns-in-TupleStruct
returns-in-TupleStruct t c = tuple_struct_seen _ _ _ _ c.in-TupleStruct.is c.as_slice-in-TupleStruct.ensures

pub returns-in-Map : goal.returns-in-Map
returns-in-Map t c = map_seen _ _ _ c.in-Map.is c.as_slice-in-Map.ensures

pub returns-in-Struct : goal.returns-in-Struct
returns-in-Struct t c = struct_seen _ _ _ _ c.in-Struct.is c.as_slice-in-Struct.ensures

pub returns-in-TupleVariant : goal.returns-in-TupleVariant
returns-in-TupleVariant t c = tuple_variant_seen _ _ _ _ _ _ c.in-TupleVariant.is c.as_slice-in-TupleVariant.ensures

pub returns-in-StructVariant : goal.returns-in-StructVariant
returns-in-StructVariant t c = struct_variant_seen _ _ _ _ _ _ c.in-StructVariant.is c.as_slice-in-StructVariant.ensures
