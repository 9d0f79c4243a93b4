-- The other facts of a log that are kept.
use Rattle.course_parts.specs.declared.facts.Facts.{Facts}
use Rattle.flow_journal.specs.Pasts.{Past}
use Rattle.flow_journal.specs.Offered.{next_index}
use Rattle.flow_journal.specs.FirstEntries.{has_loaded}
use Rattle.flow_journal.specs.Ended.{now, is_closed, has_left_any}
use Rattle.flow_journal.specs.Notes.{how_many, offers, drops, saves}

abbrev pub facts_of : Past → Facts
facts_of P =
    record {
      offered = next_index P;
      loaded = has_loaded P;
      closed = is_closed P;
      left = has_left_any P;
      tick = now P;
      came = how_many offers P;
      dropped = how_many drops P;
      saved = how_many saves P;
    }
