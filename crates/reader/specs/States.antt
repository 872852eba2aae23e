-- A reader's states: new, opened, kept. Assumes nothing.
use Rattle.std.specs.Prelude.{false}
use Rattle.types.specs.declared.page_id.PageID.{PageID}
use Rattle.reader.specs.declared.page_reader.PageReader.{PageReader}
use Rattle.reader.specs.declared.dehydrated.DehydratedPageReader.{DehydratedPageReader}

-- a reader of this page that is in no chunk yet
abbrev pub unread : PageID → PageReader
unread page = record { page = page; ended = false; offset = 0; len = 0; crc = 0; position = 0 }

-- one that was never opened, out of range until it is
abbrev pub new_reader : PageReader
new_reader = unread (record { 0 = 0 })

-- what is kept of a reader, and the reader that it was
abbrev pub stored : PageReader → DehydratedPageReader
stored r =
    record { page = r.page; ended = r.ended; offset = r.offset; len = r.len; crc = r.crc; position = r.position }

abbrev pub restored : DehydratedPageReader → PageReader
restored d =
    record { page = d.page; ended = d.ended; offset = d.offset; len = d.len; crc = d.crc; position = d.position }
