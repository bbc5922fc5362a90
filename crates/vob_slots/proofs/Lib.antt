mod CalendarLemmas
mod RoomLemmas
mod SlotsLemmas
mod SummaryLemmas
