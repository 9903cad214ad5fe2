-- Why an assertion comes to no answer where a call on a file of its own failed: the store failed, or memory was out.
use Rattle.snap_content.specs.declared.error.Error.{Error}
use Rattle.snap_content.specs.declared.error.Error.TheVariants as file
use Rattle.snap_assert.specs.declared.error.AssertError.{AssertError}
use Rattle.snap_assert.specs.declared.error.AssertError.TheVariants.{FileIo, OutOfMemory}

abbrev pub unsaved : Error → AssertError
unsaved (file.FileIo path) = FileIo path
unsaved _ = OutOfMemory
