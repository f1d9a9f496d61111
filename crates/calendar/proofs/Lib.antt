-- Laws of the calendar, and the calendar on examples.
pub mod Sums
pub mod YearLaws
pub mod CalendarLaws
pub mod WayBack
pub mod CalendarExamples
