use Rattle.snap_store.proofs.Splitting.{file-split}
use Rattle.snap_store.proofs.split.printed_files_split.Goals as goal

pub returns : goal.returns
returns c = file-split
