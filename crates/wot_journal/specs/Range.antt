-- Bytes of a side that are read: the words of the site.
pub use Rattle.wot_site.specs.Reading.{IsRange, IsShort}
