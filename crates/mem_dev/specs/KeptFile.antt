-- What a volume in memory keeps at a name.
use Rattle.std.specs.List.{concat}
use Rattle.page_dev.specs.Volume.{Kept, Lies, Out}
use Rattle.mem_dev.specs.Store.{content_of}
use Rattle.mem_dev.specs.declared.kept_file.Content.{Content}
use Rattle.mem_dev.specs.declared.kept_file.Content.TheVariants.{Pages, Bytes, Gone}

-- a file's bytes, in whatever form it is kept
abbrev pub kept_of : Content → Kept
kept_of (Pages store) = Lies (concat (content_of store))
kept_of (Bytes bytes) = Lies bytes.items
kept_of Gone = Out
