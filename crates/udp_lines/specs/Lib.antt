pub mod Brought
pub mod EndsOfSessions
pub mod Pace
pub mod Plausible
pub mod Sockets
pub mod UdpLines
-- laws of what a line brings, which its source cites
pub mod laws
