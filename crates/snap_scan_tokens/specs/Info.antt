-- What is wrong with a text, in words.
use Rattle.std.specs.Prelude.{ℕ, ◌+◌, List, ◌++◌, codes, decimal}
use Rattle.snap_scan_tokens.specs.declared.info.ScanInfo.{ScanInfo}
use Rattle.snap_scan_tokens.specs.declared.info.ScanInfo.TheVariants as i
use Rattle.snap_scan_tokens.specs.declared.info.ScanError.{ScanError}
use Rattle.snap_scan_tokens.specs.declared.info.ScanError.TheVariants.{Syntax, OutOfMemory}

-- the sentence for each fault
abbrev pub info_text : ScanInfo → List ℕ
info_text i.S1 = codes "simple key expect ':'"
info_text i.S2 = codes "simple key expected"
info_text i.S3 = codes "unexpected character: `%'"
info_text i.S4 = codes "unexpected character: `@'"
info_text i.S5 = codes "unexpected character: ``'"
info_text i.S6 = codes "while scanning a directive, did not find expected comment or line break"
info_text i.S7 = codes "while scanning a YAML directive, did not find expected digit or '.' character"
info_text i.S8 = codes "while scanning a directive, could not find expected directive name"
info_text i.S9 = codes "while scanning a directive, found unexpected non-alphabetical character"
info_text i.S10 = codes "while scanning a YAML directive, found extremely long version number"
info_text i.S11 = codes "while scanning a YAML directive, did not find expected version number"
info_text i.S12 = codes "while scanning TAG, did not find expected whitespace or line break"
info_text i.S13 = codes "while scanning a tag, did not find the expected '>'"
info_text i.S14 = codes "while scanning a tag, did not find expected whitespace or line break"
info_text i.S15 = codes "while scanning a tag, did not find expected '!'"
info_text i.S16 = codes "while parsing a tag directive, did not find expected '!'"
info_text i.S17 = codes "while parsing a tag, did not find expected tag URI"
info_text i.S18 = codes "while parsing a tag, did not find URI escaped octet"
info_text i.S19 = codes "while parsing a tag, found an incorrect leading UTF-8 octet"
info_text i.S20 = codes "while parsing a tag, found an incorrect trailing UTF-8 octet"
info_text i.S21 = codes "while parsing a tag, found an invalid UTF-8 codepoint"
info_text i.S22 = codes "while scanning an anchor or alias, did not find expected alphabetic or numeric character"
info_text i.S23 = codes "recursion limit exceeded"
info_text i.S24 = codes "block sequence entries are not allowed in this context"
info_text i.S25 = codes "\"-\" is only valid inside a block"
info_text i.S26 = codes "while scanning a block scalar, found an indentation indicator equal to 0"
info_text i.S27 = codes "while scanning a block scalar, did not find expected comment or line break"
info_text i.S28 = codes "while scanning a block scalar, found a tab character where an indentation space is expected"
info_text i.S29 = codes "while scanning a quoted scalar, found unexpected document indicator"
info_text i.S30 = codes "while scanning a quoted scalar, found unexpected end of stream"
info_text i.S31 = codes "while parsing a quoted scalar, found unknown escape character"
info_text i.S32 = codes "while parsing a quoted scalar, did not find expected hexadecimal number"
info_text i.S33 = codes "while parsing a quoted scalar, found invalid Unicode character escape code"
info_text i.S34 = codes "while scanning a plain scalar, found a tab"
info_text i.S35 = codes "mapping keys are not allowed in this context"
info_text i.S36 = codes "mapping values are not allowed in this context"
info_text i.P1 = codes "did not find expected <stream-start>"
info_text i.P2 = codes "did not find expected <document start>"
info_text i.P3 = codes "while parsing node, found unknown anchor"
info_text i.P4 = codes "while parsing a node, did not find expected node content"
info_text i.P5 = codes "while parsing a block mapping, did not find expected key"
info_text i.P6 = codes "while parsing a flow mapping, did not find expected ',' or '}'"
info_text i.P7 = codes "while parsing a flow sequence, expected ',' or ']'"
info_text i.P8 = codes "while parsing a block collection, did not find expected '-' indicator"
info_text i.P9 = codes "unexpected eof"

-- what an error is printed as: a column is counted from 1 there
abbrev pub error_text : ScanError → List ℕ
error_text (Syntax mark info) = info_text info ++ codes " at line " ++ decimal mark.line ++ codes " column " ++ decimal (mark.col + 1)
error_text OutOfMemory = codes "OutOfMemory"
