-- What reading a file comes to, exit by exit.
use Rattle.snap_store.proofs.Prelude.{◌≡◌, inl, ℕ, Bool, false, List, Option, Some, Result, Ok, Err, refl, ap, sym, ◌∙◌, subst, IsErrAnd, Plain, plain, dict, Entries, content_of, tree, Error, headed_body, body_of, FieldsEnd, HasFields, Meta, meta_of, meta_in, contents_in, legacy_in, number_text_in, SnapshotContents, SnapshotKind}
use Rattle.snap_content.specs.declared.error.Error.TheVariants.{FailedParsingYaml, UnexpectedDataType, MissingField, FileIo, FloatText, JsonKey, NotText, NoFile, OutOfMemory}
use Rattle.snap_emit.specs.Parsed.{IsHeaderReadFrom, MayBeHeaderOf, HeaderRefusalEnd}
use Rattle.snap_emit.specs.Readings.{IsHeaderTreeOf, IsOnly, IsOfStream}
use Rattle.snap_emit.specs.Spelled.{IsHeaderOf, KeepsNumber}
use Rattle.snap_emit.specs.declared.reading.Header.{Header}
use Rattle.snap_parse.specs.TextNodes.{AreNodesOf}
use Rattle.snap_parse_events.specs.Nodes.{Node}
use Rattle.snap_content.proofs.PlainMade.{plain_made}
use Rattle.snap_io.specs.Causes.{CountedIf}
use Rattle.snap_store.specs.Causes.{is_file_fault, IsCallError}
use Rattle.snap_store.specs.Reading.{IsTextFile, GivesHeader, ReadsHeader, HeaderTells, HoldsBody, IsRefused, FileEnd, IsReadAs, Tells}
use Rattle.snap_store.specs.Split.{IsSplit}
use Rattle.snap_store.specs.declared.metadata.MetaData.{MetaData}
use Rattle.snap_store.specs.declared.snapshot.Snapshot.{Snapshot}
use Rattle.snap_store.specs.declared.split.Headed.{Headed}
use Rattle.snap_store.proofs.Bodies.{body-headed}

-- the header of the text is read as the plain form of this tree
pub record HasTree (text : List ℕ) (header : Header) : Type 0 where
  pub plain : Plain
  pub tree_is : tree header.content ≡ content_of plain
  pub read : ReadsHeader text plain header.number_as_text

one_plain : (a b : Plain) → content_of a ≡ content_of b → a ≡ b
one_plain a b same = sym (plain_made a) ∙ ap plain same ∙ plain_made b

gives : (header : Header) (p : Plain) (node : Node) → tree header.content ≡ content_of p → IsHeaderTreeOf node header → GivesHeader p header.number_as_text node
gives header p node is h = record { read = h.read ∙ ap Some (one_plain h.plain p (sym h.tree_is ∙ is)); number = h.number }

alone : (header : Header) (p : Plain) (nodes : List Node) → tree header.content ≡ content_of p → IsOnly (λ node. IsHeaderTreeOf node header) nodes
    → IsOnly (GivesHeader p header.number_as_text) nodes
alone header p nodes is h = record { node = h.node; alone = h.alone; holds = gives header p h.node is h.holds }

pub header_read : (text shown : List ℕ) (headed : Headed) (header : Header) → IsSplit headed text → shown ≡ headed.header → IsHeaderReadFrom header.content shown
    → KeepsNumber shown header.number_as_text → IsOfStream (λ node. IsHeaderTreeOf node header)
    → ((nodes : List Node) → AreNodesOf shown nodes → IsOnly (λ node. IsHeaderTreeOf node header) nodes) → HasTree text header
header_read text shown headed header split same read keeps stream nodes =
    let is = same ∙ split.header_is in
    let N : List ℕ → Type 0 = λ x. (ns : List Node) → AreNodesOf x ns → IsOnly (λ node. IsHeaderTreeOf node header) ns in
    let there = subst N is nodes in
    record {
      plain = read.plain;
      tree_is = read.tree_is;
      read = record {
        headed = split.headed_is;
        read = subst (λ x. MayBeHeaderOf x read.plain) is read.read;
        numbers = subst (λ x. KeepsNumber x header.number_as_text) is keeps;
        document = record { node = stream.node; stream = stream.stream; holds = gives header read.plain stream.node read.tree_is stream.holds };
        documents = λ ns are. alone header read.plain ns read.tree_is (there ns are);
      };
    }

-- a header of no tree refuses the file
pub refused_header : (text shown path : List ℕ) (file : Option (List ℕ)) (headed : Headed) (e : Error) → IsTextFile file text → IsSplit headed text → shown ≡ headed.header
    → HeaderRefusalEnd shown path e → IsRefused path file e
refused_header text shown path file headed (FailedParsingYaml named) there split same h =
    let is = sym (same ∙ split.header_is) in
    (h.0, record { text = text; there = there; headed = split.headed_is; unspelled = λ tree has. h.1 tree has.within (subst (λ x. IsHeaderOf x tree) is has.header) })
refused_header text shown path file headed UnexpectedDataType there split same h = absurd h
refused_header text shown path file headed MissingField there split same h = absurd h
refused_header text shown path file headed (FileIo named) there split same h = absurd h
refused_header text shown path file headed (FloatText named) there split same h = absurd h
refused_header text shown path file headed JsonKey there split same h = absurd h
refused_header text shown path file headed (NotText named) there split same h = absurd h
refused_header text shown path file headed (NoFile named) there split same h = absurd h
refused_header text shown path file headed OutOfMemory there split same h = tt

other_header : (text : List ℕ) (plain : Plain) (held : Entries) (kept : Bool) → ReadsHeader text plain kept → plain ≡ dict held → ReadsHeader text (dict held) kept
other_header text plain held kept has is = let P : Plain → Type 0 = λ t. ReadsHeader text t kept in subst P is has

pub refused_fields : (text path : List ℕ) (file : Option (List ℕ)) (plain : Plain) (kept : Bool) (e : Error) → IsTextFile file text → ReadsHeader text plain kept
    → FieldsEnd plain (Err e) → IsRefused path file e
refused_fields text path file plain kept (FailedParsingYaml named) there has h = absurd h
refused_fields text path file plain kept UnexpectedDataType there has h = record { text = text; there = there; tree = plain; kept = kept; header = has; other = h }
refused_fields text path file plain kept MissingField there has h =
    record { text = text; there = there; entries = h.entries; kept = kept; header = other_header text plain h.entries kept has h.header_is; lacking = h.lacking }
refused_fields text path file plain kept (FileIo named) there has h = absurd h
refused_fields text path file plain kept (FloatText named) there has h = absurd h
refused_fields text path file plain kept JsonKey there has h = absurd h
refused_fields text path file plain kept (NotText named) there has h = absurd h
refused_fields text path file plain kept (NoFile named) there has h = absurd h
refused_fields text path file plain kept OutOfMemory there has h = tt

pub fields_no_fault : (plain : Plain) (e : Error) (n : ℕ) → FieldsEnd plain (Err e) → CountedIf (is_file_fault e) n n
fields_no_fault plain (FailedParsingYaml named) n h = absurd h
fields_no_fault plain UnexpectedDataType n h = refl
fields_no_fault plain MissingField n h = refl
fields_no_fault plain (FileIo named) n h = absurd h
fields_no_fault plain (FloatText named) n h = absurd h
fields_no_fault plain JsonKey n h = absurd h
fields_no_fault plain (NotText named) n h = absurd h
fields_no_fault plain (NoFile named) n h = absurd h
fields_no_fault plain OutOfMemory n h = refl

same_body : (kind k : SnapshotKind) (body b : List ℕ) (x y : SnapshotContents) → k ≡ kind → b ≡ body → x ≡ y → HoldsBody k b x → HoldsBody kind body y
same_body kind k body b x y same_kind same_text same h =
    let P : SnapshotKind → Type 0 = λ v. HoldsBody v body y in
    let Q : List ℕ → Type 0 = λ v. HoldsBody k v y in
    let R : SnapshotContents → Type 0 = λ v. HoldsBody k b v in
    subst P same_kind (subst Q same_text (subst R same h))

-- what is told with a header
as_told : (legacy : Bool) (text : List ℕ) (meta : Meta) (kept told : Bool) → false ≡ legacy → kept ≡ told → HeaderTells text meta kept → Tells legacy text meta told
as_told legacy text meta kept told headed same tells =
    let P : Bool → Type 0 = λ b. Tells b text meta told in
    let Q : Bool → Type 0 = λ b. HeaderTells text meta b in
    subst P headed (subst Q same tells)

pub read_as : (text body : List ℕ) (file : Option (List ℕ)) (plain : Plain) (kept : Bool) (metadata : MetaData) (snapshot : Snapshot) (kind : SnapshotKind) (contents : SnapshotContents)
    → IsTextFile file text → ReadsHeader text plain kept → HasFields plain metadata → kind ≡ (meta_of metadata).kind → body ≡ headed_body text
    → meta_in snapshot ≡ meta_of metadata → false ≡ legacy_in snapshot → kept ≡ number_text_in snapshot → contents ≡ contents_in snapshot → HoldsBody kind body contents
    → IsReadAs file snapshot
read_as text body file plain kept metadata snapshot kind contents there has read kind_is body_is metadata_is headed kept_is contents_are holds = record {
  text = text;
  there = there;
  metadata = as_told (legacy_in snapshot) text (meta_in snapshot) kept (number_text_in snapshot) headed kept_is (record {
    entries = read.entries;
    header = other_header text plain read.entries kept has read.header_is;
    kind = read.kind;
    kind_is = read.kind_is;
    meta_is = metadata_is ∙ read.fields_are;
  });
  contents = same_body (meta_in snapshot).kind kind (body_of text) body contents (contents_in snapshot) (kind_is ∙ ap (λ m. m.kind) (sym metadata_is)) (body_is ∙ sym (body-headed text has.headed)) contents_are holds;
}

pub no_memory : (path : List ℕ) (file : Option (List ℕ)) (result : Result Snapshot Error) → IsErrAnd result (λ e. e ≡ OutOfMemory) → FileEnd path file result
no_memory path file (Ok snapshot) is = absurd is
no_memory path file (Err e) is = let P : Error → Type 0 = λ x. IsRefused path file x in subst P (sym is) tt

-- a call on the file that failed refuses it
pub refused_call : (path : List ℕ) (file : Option (List ℕ)) (e : Error) → IsCallError path e → IsRefused path file e
refused_call path file (FileIo named) h = inl h
refused_call path file OutOfMemory h = tt
refused_call path file (FailedParsingYaml named) h = absurd h
refused_call path file UnexpectedDataType h = absurd h
refused_call path file MissingField h = absurd h
refused_call path file (FloatText named) h = absurd h
refused_call path file JsonKey h = absurd h
refused_call path file (NotText named) h = absurd h
refused_call path file (NoFile named) h = absurd h
